use Rattle.commit_journal.proofs.Lines.{removal_cut}
use Rattle.commit_journal.proofs.parts.removal_of.Goals as goal

pub returns : goal.returns
returns c = removal_cut c.args.text.now c.in_ok-rest.rest.now c.cut.result c.in_ok-rest.ensures c.cut.ensures
