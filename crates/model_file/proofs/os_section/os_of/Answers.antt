use Rattle.std.proofs.Common.{[], ◌∷◌, rules, map, codes, ap, ◌∙◌}
use Rattle.std.specs.Option.{option_copied}
use Rattle.std.specs.List.Sorted.{IsStrictlySortedBy}
use Rattle.std.proofs.lemmas.Result.{IfErr-weaker, on_ok_weaker}
use Rattle.toml.specs.Data.{no_members}
use Rattle.toml.specs.View.{table_view}
use Rattle.model_file.specs.Checks.{os_check, os_checks, table_check}
use Rattle.toml_values.specs.Document.{named, members_in}
use Rattle.model_file.specs.Document.{section_members}
use Rattle.model_file.specs.Refused.{Refuses}
use Rattle.model_file.proofs.Checking.{refuses_before}
use Rattle.model_file.proofs.OsNames.{section_passes, section_refuses}
use Rattle.model_file.proofs.os_section.os_of.Goals as goal

pub returns-in_err-table-clause-refused : goal.returns-in_err-table-clause-refused
returns-in_err-table-clause-refused c = λ rows.
    let document = table_view c.args.document.now in
    let refused : Refuses rows (os_checks document) c.in_err-table.field-0.0 =
    refuses_before rows (table_check (codes "os") document ∷ []) (map os_check (named (section_members (codes "os") document))) _
    (c.in_err-table.ensures.refused rows) in
    search (rules, refused)

pub of-requires : goal.of-requires
unfolding IsStrictlySortedBy
of-requires c = rw c.new.ensures.items tt

pub returns-in-Some-clause-passes : goal.returns-in-Some-clause-passes
returns-in-Some-clause-passes c = λ rows.
    let document = table_view c.args.document.now in
    let members = c.in_ok-table.ensures.members ∙ ap (λ found. members_in (option_copied found)) c.in-Some.is in
    on_ok_weaker c.names_of.result (section_passes rows document _ members (c.in_ok-table.ensures.passes rows)) (c.names_of.ensures.passes rows)

pub returns-in-Some-clause-refused : goal.returns-in-Some-clause-refused
returns-in-Some-clause-refused c = λ rows.
    let document = table_view c.args.document.now in
    let members = c.in_ok-table.ensures.members ∙ ap (λ found. members_in (option_copied found)) c.in-Some.is in
    IfErr-weaker c.names_of.result _ _ (λ e refused. section_refuses rows document _ e members (c.in_ok-table.ensures.passes rows) refused)
    (c.names_of.ensures.refused rows)

pub returns-in-None-clause-passes : goal.returns-in-None-clause-passes
returns-in-None-clause-passes c = λ rows.
    let members = c.in_ok-table.ensures.members ∙ ap (λ found. members_in (option_copied found)) c.in-None.is in
    section_passes rows (table_view c.args.document.now) no_members members (c.in_ok-table.ensures.passes rows) tt
