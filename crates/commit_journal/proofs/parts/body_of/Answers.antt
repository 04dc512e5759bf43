use Rattle.commit_journal.proofs.Lines.{body_no_number, body_short, body_no_line}
use Rattle.commit_journal.proofs.parts.body_of.Goals as goal

pub returns-in_err-size : goal.returns-in_err-size
returns-in_err-size c = rw c.from_residual-in_err-size.ensures (body_no_number _ _ _ c.in_ok-digits.ensures c.in_err-size.ensures)

pub returns-in_err-bytes : goal.returns-in_err-bytes
returns-in_err-bytes c = rw c.from_residual-in_err-bytes.ensures (body_short _ _ _ _ c.in_ok-digits.ensures c.in_ok-size.ensures c.in_err-bytes.ensures.cases)

pub returns-in_err-rest : goal.returns-in_err-rest
returns-in_err-rest c = rw c.from_residual-in_err-rest.ensures (body_no_line _ _ _ _ _ _ c.in_ok-digits.ensures c.in_ok-size.ensures c.in_ok-bytes.ensures.cases
    c.in_err-rest.ensures)
