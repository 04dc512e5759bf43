use Rattle.std.proofs.Common.{sym, ◌∙◌}
use Rattle.std.proofs.lemmas.Result.{on_ok_weaker}
use Rattle.plain_machine.proofs.StoreOpened.{opened_taken, opened_not}
use Rattle.plain_machine.proofs.machine.PlainMachine.open_store.Goals as goal

pub returns-clause-opened : goal.returns-clause-opened
returns-clause-opened c = on_ok_weaker c.take_step.result
    (λ step. opened_taken c.args.image.now c.args.self.now c.take_step.new.self c.args.boot c.args.answer (sym c.is_taken.ensures ∙ c.if-not-is_taken.false)
    step) c.take_step.ensures.stepped

pub returns-then-not-is_taken-clause-opened : goal.returns-then-not-is_taken-clause-opened
returns-then-not-is_taken-clause-opened c = opened_not c.args.image.now c.args.self.now c.args.boot c.args.answer
    (sym c.is_taken.ensures ∙ c.if-not-is_taken.true)
