use Rattle.version_links.proofs.Made.{hex_pushed}
use Rattle.version_links.proofs.printing.+push_hex.Goals as goal

pub returns : goal.returns
returns t c = hex_pushed c.args.text.now.items c.push_hex.new.text.items c.push.new.self.items c.args.count c.args.n _ c.if-count-eq0.false
    c.in_ok-push_hex.ensures c.in_ok-push.ensures.items c.glyph-last.ensures
