use Rattle.event_lines.proofs.Texts.{quoted}
use Rattle.event_lines.proofs.logfmt.with_quoted.Goals as goal

pub returns : goal.returns
returns c = quoted c.args.value.now c.args.text.items c.into_inner.result.items c.new-writer.result c.string.new.self c.into_inner.ensures.items
    c.new-writer.ensures.before c.new-writer.ensures.tokens c.in_ok-string.ensures.room.0 c.in_ok-string.ensures.ok
