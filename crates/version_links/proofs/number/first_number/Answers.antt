use Rattle.version_links.proofs.FirstNumbers.{no_number}
use Rattle.version_links.proofs.number.first_number.Goals as goal

pub returns-in_err-n : goal.returns-in_err-n
returns-in_err-n c = rw c.from_residual-in_err-n.ensures (no_number c.args.mark c.args.text.now c.in_ok-past.field-0.now c.split_digits.result.0.now
    c.split_digits.result.1.now c.in_ok-past.ensures c.split_digits.ensures.split c.split_digits.ensures.digits c.split_digits.ensures.rest c.in_err-n.ensures)
