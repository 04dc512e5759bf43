use Rattle.std.proofs.Common.{◌∙◌, ap}
use Rattle.std.specs.FinMap.{entries}
use Rattle.typed_settings.specs.Row.{IsTyped}
use Rattle.settings_machine.specs.Typed.{is_of_image}
use Rattle.store_open.proofs.Typings.{may_not, live_first, live_next, live_all, live_bad}
use Rattle.store_open.proofs.typing.bad_live.Goals as goal

pub loop-key-init : goal.loop-key-init
loop-key-init c = live_first c.args.types.now c.args.held.now _
    (c.into_iter-key-iterator.ensures.into_iter_gives ∙ c.iter-key-items.ensures ∙ ap entries c.values.ensures.values)

pub loop-key-preserved : goal.loop-key-preserved
loop-key-preserved c = live_next c.args.types.now c.args.held.now _ c.next.new.self c.in-Some.key.now c.in-Some.value.now c.in-Some.ensures.steps
    c.loop-key.invariant (c.in_ok-may_live.ensures.0 c.if-not-branch.false)

pub returns-then-not-branch-clause-found : goal.returns-then-not-branch-clause-found
returns-then-not-branch-clause-found c =
    let n = may_not (is_of_image c.in-Some.key.now) (IsTyped c.args.types.now c.in-Some.key.now c.in-Some.value.now)
    (λ typed. cc (c.in_ok-may_live.ensures.1 typed, c.if-not-branch.true)) in
    live_bad c.args.types.now c.args.held.now _ c.next.new.self c.in-Some.key.now c.in-Some.value.now c.in-Some.ensures.steps c.loop-key.invariant n.0 n.1

pub returns-clause-none : goal.returns-clause-none
returns-clause-none c = live_all c.args.types.now c.args.held.now _ c.in-None.ensures.steps.0 c.loop-key.invariant
