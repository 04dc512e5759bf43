use Rattle.std.proofs.Common.{[], ◌∷◌, rules, codes}
use Rattle.toml.specs.View.{table_view}
use Rattle.release_file.specs.Checks.{checks, name_checks, version_check, migration_checks, transition_checks, transitions_in, known_checks, section_members}
use Rattle.release_file.specs.Refused.{Refuses}
use Rattle.release_file.specs.Release.{leads_on, names_known}
use Rattle.release_file.proofs.Checking.{passes_both, passes_behind, refuses_before, refuses_after}
use Rattle.release_file.proofs.Made.{all_moved, all_lead_on, names_are_known, named_rise}
use Rattle.release_file.proofs.reading.sections_of.Goals as goal

pub returns-in_err-check_names-clause-refused : goal.returns-in_err-check_names-clause-refused
returns-in_err-check_names-clause-refused c =
    let d = table_view c.args.document.now in
    let refused : Refuses (checks d) c.in_err-check_names.field-0.0 = refuses_before (name_checks d) _ _ c.in_err-check_names.ensures.refused in
    search (rules, refused)

pub returns-in_err-check_version-clause-refused : goal.returns-in_err-check_version-clause-refused
returns-in_err-check_version-clause-refused c =
    let d = table_view c.args.document.now in
    let refused : Refuses (checks d) c.in_err-check_version.field-0.0 =
    refuses_after (name_checks d) _ _ c.in_ok-check_names.ensures.passes (refuses_before (version_check d ∷ []) _ _ c.in_err-check_version.ensures.refused)
    in
    search (rules, refused)

pub returns-in_err-migrations-clause-refused : goal.returns-in_err-migrations-clause-refused
returns-in_err-migrations-clause-refused c =
    let d = table_view c.args.document.now in
    let refused : Refuses (checks d) c.in_err-migrations.field-0.0 =
    refuses_after (name_checks d) _ _ c.in_ok-check_names.ensures.passes
    (refuses_after (version_check d ∷ []) _ _ c.in_ok-check_version.ensures.passes
    (refuses_before (migration_checks d) _ _ c.in_err-migrations.ensures.refused)) in
    search (rules, refused)

pub returns-in_err-transitions-clause-refused : goal.returns-in_err-transitions-clause-refused
returns-in_err-transitions-clause-refused c =
    let d = table_view c.args.document.now in
    let refused : Refuses (checks d) c.in_err-transitions.field-0.0 =
    refuses_after (name_checks d) _ _ c.in_ok-check_names.ensures.passes (refuses_after (version_check d ∷ []) _ _ c.in_ok-check_version.ensures.passes
    (refuses_after (migration_checks d) _ _ c.in_ok-migrations.ensures.passes c.in_err-transitions.ensures.refused)) in
    search (rules, refused)

pub returns-clause-passes : goal.returns-clause-passes
returns-clause-passes c =
    let d = table_view c.args.document.now in
    passes_both (name_checks d) _ c.in_ok-check_names.ensures.passes (
      c.in_ok-check_version.ensures.passes.0,
      passes_both (migration_checks d) _
          c.in_ok-migrations.ensures.passes c.in_ok-transitions.ensures.passes,
    )

pub invariant_of-result : goal.invariant_of-result
invariant_of-result c =
    let d = table_view c.args.document.now in
    let named = c.in_ok-migrations.ensures.migrations in
    let ts = c.in_ok-transitions.ensures.transitions in
    let known = passes_behind (transition_checks d) (known_checks d) c.in_ok-transitions.ensures.passes in
    record {
      transitions_rise = c.in_ok-transitions.ensures.rising;
      migrations_rise = named_rise c.in_ok-migrations.migrations.items c.in_ok-migrations.ensures.rising;
      lead_on = all_moved leads_on ts.0 c.in_ok-transitions.transitions.items ts.2 (all_lead_on (transitions_in d) ts.0 ts.1);
      names_are_known = all_moved (names_known c.in_ok-migrations.migrations.items) ts.0 c.in_ok-transitions.transitions.items ts.2
          (names_are_known (section_members (codes "migration") d) c.in_ok-migrations.migrations.items (transitions_in d) ts.0 named ts.1 known);
    }
