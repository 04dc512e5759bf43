use Rattle.std.proofs.Common.{◌≡◌, string_bytes, rules, refl, map, ap, ◌∙◌}
use Rattle.toml.specs.View.{view, members_view, table_view}
use Rattle.model_file.specs.Checks.{os_check}
use Rattle.toml_values.specs.Document.{named}
use Rattle.model_file.specs.Refused.{Refuses}
use Rattle.model_file.proofs.LeftChecks.{all_left, one_holds, one_refused, none_left}
use Rattle.model_file.proofs.OsNames.{rising_names, texts_grown, rising_grown, passes_at, refuses_at}
use Rattle.model_file.proofs.os_section.names_of.Goals as goal

pub loop-name-init : goal.loop-name-init
loop-name-init c =
    let all : c.into_iter-name-iterator.result ≡ c.args.table.now.entries = c.into_iter-name-iterator.ensures.into_iter_gives
    ∙ c.iter-name-items.ensures.rest in
    rw (all, c.new-names.ensures.items) (all_left _, refl, rising_names c.args.table.now.entries c.iter-name-items.ensures.ordered)

pub returns-in_err-name_of-clause-refused : goal.returns-in_err-name_of-clause-refused
returns-in_err-name_of-clause-refused c = λ rows.
    let e = c.in_err-name_of.field-0.0 in
    let left = ap (λ l. map os_check (named (members_view l))) c.in-Some.ensures.steps in
    let refused : Refuses rows (map os_check (named (table_view c.args.table.now))) e =
    one_refused _ _ _ _ e c.loop-name.invariant.0 left (refuses_at (string_bytes c.in-Some.name.now) c.deref.result.now (view c.in-Some.value.now) e
    c.deref.ensures c.in_err-name_of.ensures.refused) rows in
    search (rules, refused)

pub loop-name-preserved : goal.loop-name-preserved
loop-name-preserved c =
    let left = ap (λ l. map os_check (named (members_view l))) c.in-Some.ensures.steps in
    let name = string_bytes c.in-Some.name.now in
    let bytes = c.deref.result.now in
    let value = view c.in-Some.value.now in
    let next = ap members_view c.in-Some.ensures.steps in
    let own = c.in_ok-name_of.ensures.name in (
      one_holds _ _ _ _ c.loop-name.invariant.0 left (passes_at name bytes value c.deref.ensures c.in_ok-name_of.ensures.passes),
      texts_grown _ _ c.in_ok-name_of.field-0 _ _ name bytes value _ c.in_ok-push.ensures.items next c.deref.ensures own.0 own.1 c.loop-name.invariant.1,
      rising_grown _ _ c.in_ok-name_of.field-0 _ _ name bytes value c.in_ok-push.ensures.items next c.deref.ensures own.0 c.loop-name.invariant.2,
    )

pub returns-clause-passes : goal.returns-clause-passes
returns-clause-passes c = none_left _ _ c.loop-name.invariant.0 (ap (λ l. map os_check (named (members_view l))) c.in-None.ensures.steps.0)
