use Rattle.std.proofs.Common.{◌≡◌, string_bytes, rules, subst, sym, map, ap, ◌∙◌}
use Rattle.std.specs.List.Sorted.{IsStrictlySortedBy}
use Rattle.key_names.specs.Order.{bytes_cmp}
use Rattle.toml.specs.View.{view, members_view, table_view}
use Rattle.toml_values.specs.Document.{named}
use Rattle.release_file.specs.Checks.{migration}
use Rattle.release_file.specs.Refused.{Refuses}
use Rattle.release_file.proofs.LeftChecks.{all_left, one_holds, one_refused, none_left}
use Rattle.release_file.proofs.Checked.{passes_at, refuses_at}
use Rattle.release_file.proofs.Entries.{rising_names, migration_spelled, migrations_spelled, migration_names}
use Rattle.release_file.proofs.migrations.migrations_in.Goals as goal

pub loop-name-init : goal.loop-name-init
loop-name-init c =
    let all : c.into_iter-name-iterator.result ≡ c.args.table.now.entries = c.into_iter-name-iterator.ensures.into_iter_gives
    ∙ c.iter-name-items.ensures.rest in
    rw (all, c.new-migrations.ensures.items) (all_left _, λ after spelled. spelled)

pub returns-in_err-named_at-clause-refused : goal.returns-in_err-named_at-clause-refused
returns-in_err-named_at-clause-refused c =
    let e = c.in_err-named_at.field-0.0 in
    let left = ap (λ l. map migration (named (members_view l))) c.in-Some.ensures.steps in
    let refused : Refuses (map migration (named (table_view c.args.table.now))) e =
    one_refused _ _ _ _ e c.loop-name.invariant.0 left (refuses_at migration (string_bytes c.in-Some.name.now) c.deref.result.now (view c.in-Some.value.now)
    c.deref.ensures e c.in_err-named_at.ensures.refused) in
    search (rules, refused)

pub loop-name-preserved : goal.loop-name-preserved
loop-name-preserved c =
    let left = ap (λ l. map migration (named (members_view l))) c.in-Some.ensures.steps in
    let name = string_bytes c.in-Some.name.now in
    let value = view c.in-Some.value.now in
    let next = ap members_view c.in-Some.ensures.steps in
    let own = c.in_ok-named_at.ensures.named in (
      one_holds _ _ _ _ c.loop-name.invariant.0 left (passes_at migration name c.deref.result.now value c.deref.ensures c.in_ok-named_at.ensures.passes),
      migration_spelled _ _ _ _ _ c.in_ok-named_at.field-0 name value c.in_ok-push.ensures.items next (own.name_is ∙ c.deref.ensures) own.work
          c.loop-name.invariant.1,
    )

pub returns-clause-passes : goal.returns-clause-passes
returns-clause-passes c = none_left _ _ c.loop-name.invariant.0 (ap (λ l. map migration (named (members_view l))) c.in-None.ensures.steps.0)

pub returns-clause-migrations : goal.returns-clause-migrations
returns-clause-migrations c = migrations_spelled _ _ _ (ap members_view c.in-None.ensures.steps.0) c.loop-name.invariant.1

pub returns-clause-rising : goal.returns-clause-rising
returns-clause-rising c =
    let spelled = migrations_spelled _ _ _ (ap members_view c.in-None.ensures.steps.0) c.loop-name.invariant.1 in
    subst (IsStrictlySortedBy bytes_cmp) (sym (migration_names _ _ spelled)) (rising_names c.args.table.now.entries c.iter-name-items.ensures.ordered)
