use Rattle.held_text.proofs.DumpBack.{dump_back}
use Rattle.held_text.proofs.dump.read_dump.Goals as goal

pub returns-clause-back : goal.returns-clause-back
returns-clause-back c = λ v h fits is prints. c.read_spelled.ensures.exact v h (dump_back v h c.args.text.now fits is prints)
