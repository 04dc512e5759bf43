use Rattle.version_links.proofs.Made.{pushed_id}
use Rattle.version_links.proofs.printing.push_digits.Goals as goal

pub returns-then-mark-eq95 : goal.returns-then-mark-eq95
returns-then-mark-eq95 c = pushed_id c.push_hex.result c.args.text.now.items c.push_hex.new.text.items c.args.mark c.args.n c.if-mark-eq95.true
    c.push_hex.ensures
