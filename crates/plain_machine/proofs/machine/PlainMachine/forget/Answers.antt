use Rattle.std.proofs.Common.{refl, sym, ◌∙◌, ap, subst}
use Rattle.pending_tx.specs.Transactions.{forgotten}
use Rattle.settings_machine.specs.Typed.{IsTypedHeld}
use Rattle.plain_machine.proofs.KeysForgotten.{forgot_is, forgotten_typed}
use Rattle.plain_machine.proofs.machine.PlainMachine.forget.Goals as goal

pub lay-requires-clause-rule : goal.lay-requires-clause-rule
lay-requires-clause-rule c = c.in_ok-change.ensures.rule c.keep_rule.ensures

pub returns-clause-forgotten : goal.returns-clause-forgotten
returns-clause-forgotten c = (
  c.in_default.ensures,
  forgot_is c.args.self.now (record c.args.self.now { held = c.lay.new.self }) c.args.keys.now
      (c.in_ok-lay.ensures.ok ∙ c.in_ok-change.ensures.laid ∙ ap (forgotten c.args.self.now.held) c.in_ok-named.ensures) refl,
)

pub returns-clause-typed : goal.returns-clause-typed
returns-clause-typed c = λ types typed. subst (IsTypedHeld types) (sym (c.in_ok-lay.ensures.ok ∙ c.in_ok-change.ensures.laid))
    (forgotten_typed types c.args.self.now.held c.in_ok-named.named typed)
