use Rattle.std.proofs.Common.{◌≡◌, ℕ, List, [], take}
use Rattle.std.specs.List.{flat_map}
use Rattle.typed_settings.specs.Row.{IsTableOf}
use Rattle.model_file.specs.Checks.{value_checks}
use Rattle.model_file.specs.Model.{AreTyped}
use Rattle.model_file.specs.Refused.{Passes}
use Rattle.model_file.proofs.Puts.{valued}
use Rattle.model_file.proofs.value_sections.put_entries.Given as goal

abbrev pub invariant-loop-entry : goal.invariant-loop-entry
invariant-loop-entry l = record {
  passes : (rows : List (List ℕ × List ℕ)) → IsTableOf rows l.types → Passes rows (flat_map (value_checks l.name) (take l.entry-index l.entries));
  put : l.content ≡ valued l.name (take l.entry-index l.entries) l.fn.content;
  typed : AreTyped l.types l.content.values;
  strong : l.content.weak ≡ [];
}
