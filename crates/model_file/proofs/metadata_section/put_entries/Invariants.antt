use Rattle.std.proofs.Common.{◌≡◌, ℕ, List, take}
use Rattle.std.specs.List.{flat_map}
use Rattle.model_file.specs.Checks.{meta_checks}
use Rattle.model_file.specs.Refused.{Passes}
use Rattle.model_file.proofs.Puts.{noted}
use Rattle.model_file.proofs.metadata_section.put_entries.Given as goal

abbrev pub invariant-loop-entry : goal.invariant-loop-entry
invariant-loop-entry l = record {
  passes : (rows : List (List ℕ × List ℕ)) → Passes rows (flat_map meta_checks (take l.entry-index l.entries));
  put : l.content ≡ noted (take l.entry-index l.entries) l.fn.content;
}
