use Rattle.std.proofs.Common.{refl}
use Rattle.plain_machine.proofs.RequestsAnswered.{asked_apply_all}
use Rattle.plain_machine.proofs.machine.PlainMachine.apply_all.Goals as goal

pub returns-clause-asked : goal.returns-clause-asked
returns-clause-asked c = asked_apply_all c.args.image.now c.args.self.now _ c.in_ok-apply.ensures.applied refl
