use Rattle.std.proofs.Common.{[], ◌∷◌, ◌++◌, rules, map, codes, ap, ◌∙◌, subst, sym}
use Rattle.std.specs.Option.{option_copied}
use Rattle.toml.specs.View.{table_view}
use Rattle.toml_values.specs.Document.{named}
use Rattle.release_file.specs.Checks.{transition, transition_checks, transitions_in, known_check, known_checks, section_check, section_members}
use Rattle.release_file.specs.Refused.{Passes, Refuses}
use Rattle.toml_values.specs.Document.{members_in}
use Rattle.release_file.specs.declared.release_error.ReleaseKind.TheVariants.{BadPair}
use Rattle.release_file.proofs.Checking.{passes_both, refuses_before, refuses_after}
use Rattle.release_file.proofs.Rising.{sorted_rise}
use Rattle.release_file.proofs.SectionNames.{entries_pass, entries_refuse}
use Rattle.release_file.proofs.transitions.transitions_of.Goals as goal

pub returns-in_err-table-clause-refused : goal.returns-in_err-table-clause-refused
returns-in_err-table-clause-refused c =
    let document = table_view c.args.document.now in
    let refused : Refuses (transition_checks document ++ known_checks document) c.in_err-table.field-0.0 =
    refuses_before (section_check BadPair (codes "migrations") document ∷ []) (map transition (transitions_in document) ++ known_checks document) _
    c.in_err-table.ensures.refused in
    search (rules, refused)

pub returns-in_err-transitions-clause-refused : goal.returns-in_err-transitions-clause-refused
returns-in_err-transitions-clause-refused c =
    let document = table_view c.args.document.now in
    let members = c.in_ok-table.ensures.members ∙ ap (λ found. members_in (option_copied found)) c.in-Some.is in
    let refused : Refuses (transition_checks document ++ known_checks document) c.in_err-transitions.field-0.0 =
    refuses_before (transition_checks document) (known_checks document) _
    (entries_refuse transition BadPair (codes "migrations") document _ members c.in_ok-table.ensures.passes _ c.in_err-transitions.ensures.refused) in
    search (rules, refused)

pub returns-in_err-check_all_known-clause-refused : goal.returns-in_err-check_all_known-clause-refused
returns-in_err-check_all_known-clause-refused c =
    let document = table_view c.args.document.now in
    let e = c.in_err-check_all_known.field-0.0 in
    let members = c.in_ok-table.ensures.members ∙ ap (λ found. members_in (option_copied found)) c.in-Some.is in
    let front = entries_pass transition BadPair (codes "migrations") document _ members c.in_ok-table.ensures.passes c.in_ok-transitions.ensures.passes in
    let refused : Refuses (transition_checks document ++ known_checks document) e =
    refuses_after (transition_checks document) (known_checks document) e front
    (subst (λ ms. Refuses (map (known_check (section_members (codes "migration") document)) (named ms)) e) (sym members)
    c.in_err-check_all_known.ensures.refused) in
    search (rules, refused)

pub returns-clause-passes : goal.returns-clause-passes
returns-clause-passes c =
    let document = table_view c.args.document.now in
    let members = c.in_ok-table.ensures.members ∙ ap (λ found. members_in (option_copied found)) c.in-Some.is in
    let front = entries_pass transition BadPair (codes "migrations") document _ members c.in_ok-table.ensures.passes c.in_ok-transitions.ensures.passes in
    passes_both (transition_checks document) (known_checks document) front
    (subst (λ ms. Passes (map (known_check (section_members (codes "migration") document)) (named ms))) (sym members) c.in_ok-check_all_known.ensures.passes)

pub returns-clause-rising : goal.returns-clause-rising
returns-clause-rising c =
    sorted_rise _ c.in_ok-transitions.transitions.items c.in_ok-sorted.field-0.items c.in_ok-transitions.ensures.names c.in_ok-transitions.ensures.transitions
    c.in_ok-sorted.ensures.moved c.in_ok-sorted.ensures.sorted
