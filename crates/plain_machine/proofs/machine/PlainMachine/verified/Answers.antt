use Rattle.plain_machine.proofs.Verifications.{verified_one}
use Rattle.plain_machine.proofs.machine.PlainMachine.verified.Goals as goal

pub returns : goal.returns
returns c = verified_one c.args.image.now c.args.self.now c.args.file c.args.is_due _ c.in_ok-path.path c.in_ok-state.state c.in_ok-path.ensures
    c.found.ensures (rw c.of.ensures at c.in_ok-state.ensures)
