use Rattle.template_reader.proofs.Lines.{front_found, front_missing}
use Rattle.template_reader.proofs.taken.line_front.Goals as goal

pub returns-then-starts_line-clause-value : goal.returns-then-starts_line-clause-value
returns-then-starts_line-clause-value c = front_found c.args.before.now c.split_at.result.0.now _ _ c.blanks_last-n.ensures.value c.split_at.ensures.front
    c.starts_line.ensures c.if-starts_line.true

pub returns-else-starts_line-clause-value : goal.returns-else-starts_line-clause-value
returns-else-starts_line-clause-value c = front_missing c.args.before.now c.split_at.result.0.now _ _ c.blanks_last-n.ensures.value c.split_at.ensures.front
    c.starts_line.ensures c.if-starts_line.false
