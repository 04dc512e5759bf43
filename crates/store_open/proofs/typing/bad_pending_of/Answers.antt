use Rattle.std.proofs.Common.{sym, ◌∙◌, ap}
use Rattle.std.specs.FinMap.{entries}
use Rattle.store_open.proofs.Typings.{absent, values_of, pending_first, pending_next, pending_all, pending_bad}
use Rattle.store_open.proofs.typing.bad_pending_of.Goals as goal

pub returns-in_default-clause-none : goal.returns-in_default-clause-none
returns-in_default-clause-none c = absent c.args.types.now c.args.held.now c.args.tx.now (sym c.in_default.ensures.keys)

pub loop-key-init : goal.loop-key-init
loop-key-init c = pending_first c.args.types.now c.args.held.now c.args.tx.now _
    (c.into_iter-key-iterator.ensures.into_iter_gives ∙ c.iter-key-items.ensures
    ∙ ap entries (values_of c.args.types.now c.args.held.now c.args.tx.now c.in-Some.values.now c.in-Some.ensures.keys))

pub loop-key-preserved : goal.loop-key-preserved
loop-key-preserved c = pending_next c.args.types.now c.args.held.now c.args.tx.now _ c.next.new.self c.in-Some-2.key.now c.in-Some-2.value.now
    c.in-Some-2.ensures.steps c.loop-key.invariant (c.in_ok-may_pend.ensures.0 c.if-not-branch.false)

pub returns-then-not-branch-clause-found : goal.returns-then-not-branch-clause-found
returns-then-not-branch-clause-found c = pending_bad c.args.types.now c.args.held.now c.args.tx.now _ c.next.new.self c.in-Some-2.key.now
    c.in-Some-2.value.now c.in-Some-2.ensures.steps c.loop-key.invariant (λ may. cc (c.in_ok-may_pend.ensures.1 may, c.if-not-branch.true))

pub returns-clause-none : goal.returns-clause-none
returns-clause-none c = pending_all c.args.types.now c.args.held.now c.args.tx.now _ c.in-None.ensures.steps.0 c.loop-key.invariant
