use Rattle.std.proofs.Common.{sym, ◌∙◌, subst}
use Rattle.settings_machine.specs.Typed.{IsTypedHeld}
use Rattle.settings_machine.proofs.Typing.{dropped_typed}
use Rattle.plain_machine.proofs.Plainly.{dropped_is}
use Rattle.plain_machine.proofs.pending.drop_tx.Goals as goal

pub returns-clause-answered : goal.returns-clause-answered
returns-clause-answered c = dropped_is c.args.types.now c.args.held.now c.args.tx.now _ _ (c.in_ok-lay.ensures.ok ∙ c.in_ok-dropped.ensures.laid)
    c.in_ok-dropped.ensures.keys

pub returns-clause-typed : goal.returns-clause-typed
returns-clause-typed c = subst (IsTypedHeld c.args.types.now) (sym (c.in_ok-lay.ensures.ok ∙ c.in_ok-dropped.ensures.laid))
    (dropped_typed c.args.types.now c.args.held.now c.requires.typed c.args.tx.now)
