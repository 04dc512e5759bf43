use Rattle.std.proofs.Common.{◌≡◌, ℕ, [], List, subst, rules}
use Rattle.std.specs.List.{flat_map}
use Rattle.std.specs.Result.{OnOk}
use Rattle.toml.specs.View.{table_view}
use Rattle.typed_settings.specs.Row.{IsTableOf}
use Rattle.model_file.specs.Checks.{value_checks}
use Rattle.model_file.specs.Entries.{Path, members_entries}
use Rattle.model_file.specs.Refused.{Passes}
use Rattle.model_file.specs.declared.found.Found.{Found}
use Rattle.model_file.proofs.value_sections.put_table.Goals as goal

pub returns-clause-passes : goal.returns-clause-passes
returns-clause-passes c =
    let are : c.deref.result.now ≡ members_entries [] (table_view c.args.table.now) = search rules in
    subst (λ (es : List (Path × Found)). (rows : List (List ℕ × List ℕ)) → IsTableOf rows c.args.types.now
    → OnOk c.put_entries.result (Passes rows (flat_map (value_checks c.args.name.now) es))) are c.put_entries.ensures.passes
