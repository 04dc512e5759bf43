use Rattle.std.proofs.Common.{◌≡◌, [], rules}
use Rattle.std.specs.Prelude.{codes}
use Rattle.std.specs.List.{flat_map}
use Rattle.std.proofs.lemmas.Result.{IfErr-weaker, err_from_is_err_and, on_ok_weaker}
use Rattle.toml.specs.Data.{no_members}
use Rattle.toml.specs.View.{table_view}
use Rattle.model_file.specs.Checks.{meta_checks, metadata_checks}
use Rattle.model_file.specs.Document.{section_members}
use Rattle.model_file.specs.Entries.{members_entries}
use Rattle.model_file.specs.Refused.{Refuses}
use Rattle.model_file.proofs.EntryChecks.{section_passes, section_refuses, table_refuses}
use Rattle.model_file.proofs.metadata_section.put_metadata.Goals as goal

pub returns-in_err-table-clause-refused : goal.returns-in_err-table-clause-refused
returns-in_err-table-clause-refused c =
    let document = table_view c.args.document.now in
    let p = err_from_is_err_and c.from_residual.result c.from_residual.ensures.1 in
    λ rows. rw (p.1, p.2) (table_refuses meta_checks rows (codes "metadata") document _ (c.in_err-table.ensures.refused rows))

pub returns-in-Some-clause-passes : goal.returns-in-Some-clause-passes
returns-in-Some-clause-passes c =
    let document = table_view c.args.document.now in
    let below = table_view c.in-Some.table.now in
    let are : section_members (codes "metadata") document ≡ below = search rules in
    λ rows. on_ok_weaker c.put_table.result (section_passes meta_checks rows (codes "metadata") document below are (c.in_ok-table.ensures.passes rows))
    (c.put_table.ensures.passes rows)

pub returns-in-Some-clause-refused : goal.returns-in-Some-clause-refused
returns-in-Some-clause-refused c =
    let document = table_view c.args.document.now in
    let below = table_view c.in-Some.table.now in
    let are : section_members (codes "metadata") document ≡ below = search rules in
    λ rows. IfErr-weaker c.put_table.result (Refuses rows (flat_map meta_checks (members_entries [] below))) (Refuses rows (metadata_checks document))
    (λ e. section_refuses meta_checks rows (codes "metadata") document below are e (c.in_ok-table.ensures.passes rows)) (c.put_table.ensures.refused rows)

pub returns-in-None-clause-passes : goal.returns-in-None-clause-passes
returns-in-None-clause-passes c =
    let document = table_view c.args.document.now in
    let are : section_members (codes "metadata") document ≡ no_members = search rules in
    λ rows. section_passes meta_checks rows (codes "metadata") document no_members are (c.in_ok-table.ensures.passes rows) tt
