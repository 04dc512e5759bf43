use Rattle.std.proofs.Common.{◌≡◌, [], rules}
use Rattle.std.specs.List.{flat_map}
use Rattle.std.proofs.lemmas.Result.{IfErr-weaker, err_from_is_err_and, on_ok_weaker}
use Rattle.toml.specs.Data.{no_members}
use Rattle.toml.specs.View.{table_view}
use Rattle.model_file.specs.Checks.{value_checks, section_checks}
use Rattle.model_file.specs.Document.{section_members}
use Rattle.model_file.specs.Entries.{members_entries}
use Rattle.model_file.specs.Refused.{Refuses}
use Rattle.model_file.proofs.EntryChecks.{section_passes, section_refuses, table_refuses}
use Rattle.model_file.proofs.value_sections.put_section.Goals as goal

pub returns-in_err-table-clause-refused : goal.returns-in_err-table-clause-refused
returns-in_err-table-clause-refused c =
    let name = c.args.name.now in
    let document = table_view c.args.document.now in
    let p = err_from_is_err_and c.from_residual.result c.from_residual.ensures.1 in
    λ rows of_rows. rw (p.1, p.2) (table_refuses (value_checks name) rows name document _ (c.in_err-table.ensures.refused rows))

pub returns-in-Some-clause-passes : goal.returns-in-Some-clause-passes
returns-in-Some-clause-passes c =
    let name = c.args.name.now in
    let document = table_view c.args.document.now in
    let below = table_view c.in-Some.table.now in
    let are : section_members name document ≡ below = search rules in
    λ rows of_rows. on_ok_weaker c.put_table.result (section_passes (value_checks name) rows name document below are (c.in_ok-table.ensures.passes rows))
    (c.put_table.ensures.passes rows of_rows)

pub returns-in-Some-clause-refused : goal.returns-in-Some-clause-refused
returns-in-Some-clause-refused c =
    let name = c.args.name.now in
    let document = table_view c.args.document.now in
    let below = table_view c.in-Some.table.now in
    let are : section_members name document ≡ below = search rules in
    λ rows of_rows. IfErr-weaker c.put_table.result (Refuses rows (flat_map (value_checks name) (members_entries [] below)))
    (Refuses rows (section_checks name document)) (λ e. section_refuses (value_checks name) rows name document below are e
    (c.in_ok-table.ensures.passes rows)) (c.put_table.ensures.refused rows of_rows)

pub returns-in-None-clause-passes : goal.returns-in-None-clause-passes
returns-in-None-clause-passes c =
    let name = c.args.name.now in
    let document = table_view c.args.document.now in
    let are : section_members name document ≡ no_members = search rules in
    λ rows of_rows. section_passes (value_checks name) rows name document no_members are (c.in_ok-table.ensures.passes rows) tt
