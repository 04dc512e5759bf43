use Rattle.commit_journal.proofs.Recovering.{stands_one}
use Rattle.commit_journal.proofs.Texts.{of_one_batch, no_prefix}
use Rattle.commit_journal.proofs.law.laws.Goals as goal

pub returns : goal.returns
returns c = record { one_meaning = stands_one; one_batch = of_one_batch; no_prefix = no_prefix }
