use Rattle.std.proofs.Common.{arith, length, ap, subst}
use Rattle.std.specs.Prelude.{IfSome, IfNone}
use Rattle.std.specs.Option.{option_copied}
use Rattle.pending_tx.proofs.Walked.{inner_next}
use Rattle.store_open.specs.Typed.{HasTypedPendingOf, IsFirstBadPendingOf}
use Rattle.store_open.proofs.Typings.{tx_none, tx_next, tx_all, tx_bad}
use Rattle.store_open.proofs.typing.bad_pending.Goals as goal

pub loop-tx-init : goal.loop-tx-init
loop-tx-init c = tx_none c.args.types.now c.args.held.now

pub loop-tx-smaller : goal.loop-tx-smaller
loop-tx-smaller c = omega (arith, ap length (inner_next c.args.held.now.pending (option_copied c.loop-tx.after) c.in-Some.tx.now c.in-Some.ensures.least))

pub loop-tx-preserved : goal.loop-tx-preserved
loop-tx-preserved c = tx_next c.args.types.now c.args.held.now (option_copied c.loop-tx.after) c.in-Some.tx.now c.in-Some.ensures.least c.loop-tx.invariant
    (subst (λ o. IfNone o (HasTypedPendingOf c.args.types.now c.args.held.now c.in-Some.tx.now)) c.in_default-2.is c.in_ok-key.ensures.none)

pub returns-in-Some-2-clause-found : goal.returns-in-Some-2-clause-found
returns-in-Some-2-clause-found c = tx_bad c.args.types.now c.args.held.now
    (option_copied c.loop-tx.after) c.in-Some.tx.now c.in-Some-2.key.now c.in-Some.ensures.least c.loop-tx.invariant
    (subst (λ o. IfSome o (λ key. IsFirstBadPendingOf c.args.types.now c.args.held.now c.in-Some.tx.now key.now)) c.in-Some-2.is c.in_ok-key.ensures.found)

pub returns-clause-none : goal.returns-clause-none
returns-clause-none c = tx_all c.args.types.now c.args.held.now (option_copied c.loop-tx.after) c.in_default.ensures.none c.loop-tx.invariant
