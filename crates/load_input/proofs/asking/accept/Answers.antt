use Rattle.std.proofs.Common.{Ok, ap}
use Rattle.load_input.proofs.Connected.{connected}
use Rattle.load_input.proofs.asking.accept.Goals as goal

pub returns-in-Ok-true-clause-fresh : goal.returns-in-Ok-true-clause-fresh
returns-in-Ok-true-clause-fresh c =
    connected c.args.door.now c.accept.new.self (Ok c.in-Ok-true.field-0) c.requires.unused c.in-Ok-true.ensures.taken (ap Ok c.in-Ok-true.field-0-test)
