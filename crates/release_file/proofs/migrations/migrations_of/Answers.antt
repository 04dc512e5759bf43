use Rattle.std.proofs.Common.{[], ◌∷◌, rules, map, codes, ap, ◌∙◌}
use Rattle.std.specs.Option.{option_copied}
use Rattle.std.specs.List.Sorted.{IsStrictlySortedBy}
use Rattle.std.proofs.lemmas.Result.{IfErr-weaker, on_ok_weaker}
use Rattle.toml.specs.View.{table_view}
use Rattle.release_file.specs.Checks.{migration, migration_checks, migrations_in, section_check}
use Rattle.release_file.specs.Refused.{Refuses}
use Rattle.toml_values.specs.Document.{members_in}
use Rattle.release_file.specs.declared.release_error.ReleaseKind.TheVariants.{BadMigration}
use Rattle.release_file.proofs.Checking.{refuses_before}
use Rattle.release_file.proofs.SectionNames.{entries_pass, entries_refuse}
use Rattle.release_file.proofs.migrations.migrations_of.Goals as goal

pub returns-in_err-table-clause-refused : goal.returns-in_err-table-clause-refused
returns-in_err-table-clause-refused c =
    let document = table_view c.args.document.now in
    let refused : Refuses (migration_checks document) c.in_err-table.field-0.0 =
    refuses_before (section_check BadMigration (codes "migration") document ∷ []) (map migration (migrations_in document)) _ c.in_err-table.ensures.refused
    in
    search (rules, refused)

pub returns-in-Some-clause-passes : goal.returns-in-Some-clause-passes
returns-in-Some-clause-passes c =
    let members = c.in_ok-table.ensures.members ∙ ap (λ found. members_in (option_copied found)) c.in-Some.is in
    on_ok_weaker c.migrations_in.result (entries_pass migration BadMigration (codes "migration") (table_view c.args.document.now) _ members
    c.in_ok-table.ensures.passes) c.migrations_in.ensures.passes

pub returns-in-Some-clause-refused : goal.returns-in-Some-clause-refused
returns-in-Some-clause-refused c =
    let members = c.in_ok-table.ensures.members ∙ ap (λ found. members_in (option_copied found)) c.in-Some.is in
    IfErr-weaker c.migrations_in.result _ _ (λ e refused. entries_refuse migration BadMigration (codes "migration") (table_view c.args.document.now) _ members
    c.in_ok-table.ensures.passes e refused) c.migrations_in.ensures.refused

pub returns-in-None-clause-rising : goal.returns-in-None-clause-rising
unfolding IsStrictlySortedBy
returns-in-None-clause-rising c = rw c.new.ensures.items tt
