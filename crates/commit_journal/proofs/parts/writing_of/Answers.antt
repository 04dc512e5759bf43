use Rattle.commit_journal.proofs.Lines.{writing_uncut, writing_no_body}
use Rattle.commit_journal.proofs.parts.writing_of.Goals as goal

pub returns-in_err-path : goal.returns-in_err-path
returns-in_err-path c = rw c.from_residual-in_err-path.ensures (writing_uncut _ _ c.in_ok-rest.ensures c.in_err-path.ensures)

pub returns-in_err-bytes : goal.returns-in_err-bytes
returns-in_err-bytes c = rw c.from_residual-in_err-bytes.ensures (writing_no_body _ _ _ _ c.in_ok-rest.ensures c.in_ok-path.ensures c.in_err-bytes.ensures)
