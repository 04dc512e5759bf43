use Rattle.std.proofs.Common.{◌≡◌, ℕ, [], List, subst, rules}
use Rattle.std.specs.List.{flat_map}
use Rattle.std.specs.Result.{IfErr, OnOk}
use Rattle.toml.specs.View.{table_view}
use Rattle.model_file.specs.Checks.{meta_checks}
use Rattle.model_file.specs.Entries.{Path, members_entries}
use Rattle.model_file.specs.Refused.{Passes, Refuses}
use Rattle.model_file.specs.declared.found.Found.{Found}
use Rattle.model_file.proofs.metadata_section.put_table.Goals as goal

pub returns-clause-passes : goal.returns-clause-passes
returns-clause-passes c =
    let are : c.deref.result.now ≡ members_entries [] (table_view c.args.table.now) = search rules in
    subst (λ (es : List (Path × Found)). (rows : List (List ℕ × List ℕ)) → OnOk c.put_entries.result (Passes rows (flat_map meta_checks es))) are
    c.put_entries.ensures.passes

pub returns-clause-refused : goal.returns-clause-refused
returns-clause-refused c =
    let are : c.deref.result.now ≡ members_entries [] (table_view c.args.table.now) = search rules in
    subst (λ (es : List (Path × Found)). (rows : List (List ℕ × List ℕ)) → IfErr c.put_entries.result (Refuses rows (flat_map meta_checks es))) are
    c.put_entries.ensures.refused
