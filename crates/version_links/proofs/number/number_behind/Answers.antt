use Rattle.version_links.proofs.Digits.{no_mark, behind}
use Rattle.version_links.proofs.number.number_behind.Goals as goal

pub returns-in_err-digits : goal.returns-in_err-digits
returns-in_err-digits c = rw c.from_residual-in_err-digits.ensures (no_mark c.args.text.now c.args.front.now _ c.args.mark c.in_ok-after.ensures
    c.in_err-digits.ensures)

pub returns : goal.returns
returns c = behind c.args.text.now c.args.front.now _ _ c.args.mark _ c.in_ok-after.ensures c.in_ok-digits.ensures c.value.ensures
