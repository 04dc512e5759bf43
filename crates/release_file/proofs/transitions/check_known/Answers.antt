use Rattle.std.proofs.Common.{◌≡◌, string_bytes, rules, map, ap, ◌∙◌}
use Rattle.toml.specs.View.{view, members_view, table_view}
use Rattle.toml_values.specs.Document.{named}
use Rattle.release_file.specs.Checks.{known_check}
use Rattle.release_file.specs.Refused.{Refuses}
use Rattle.release_file.proofs.LeftChecks.{all_left, one_holds, one_refused, none_left}
use Rattle.release_file.proofs.Checked.{passes_at, refuses_at}
use Rattle.release_file.proofs.transitions.check_known.Goals as goal

pub loop-name-init : goal.loop-name-init
loop-name-init c =
    let all : c.into_iter-name-iterator.result ≡ c.args.table.now.entries = c.into_iter-name-iterator.ensures.into_iter_gives
    ∙ c.iter-name-items.ensures.rest in
    rw all (all_left _)

pub returns-in_err-known_at-clause-refused : goal.returns-in_err-known_at-clause-refused
returns-in_err-known_at-clause-refused c =
    let e = c.in_err-known_at.field-0.0 in
    let check = known_check (table_view c.args.migrations.now) in
    let left = ap (λ l. map check (named (members_view l))) c.in-Some.ensures.steps in
    let refused : Refuses (map check (named (table_view c.args.table.now))) e =
    one_refused _ _ _ _ e c.loop-name.invariant left (refuses_at check (string_bytes c.in-Some.name.now) c.deref.result.now (view c.in-Some.value.now)
    c.deref.ensures e c.in_err-known_at.ensures.refused) in
    search (rules, refused)

pub loop-name-preserved : goal.loop-name-preserved
loop-name-preserved c =
    let check = known_check (table_view c.args.migrations.now) in
    let left = ap (λ l. map check (named (members_view l))) c.in-Some.ensures.steps in
    one_holds _ _ _ _ c.loop-name.invariant left (passes_at check (string_bytes c.in-Some.name.now) c.deref.result.now (view c.in-Some.value.now)
    c.deref.ensures c.in_ok-known_at.ensures.passes)

pub returns-clause-passes : goal.returns-clause-passes
returns-clause-passes c = none_left _ _ c.loop-name.invariant (ap (λ l. map (known_check (table_view c.args.migrations.now)) (named (members_view l)))
    c.in-None.ensures.steps.0)
