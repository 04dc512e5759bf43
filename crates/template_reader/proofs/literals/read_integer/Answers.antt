use Rattle.std.proofs.Common.{sym, ◌∙◌}
use Rattle.template_reader.proofs.Integers.{plus_none, parsed_integer, text_none}
use Rattle.template_reader.proofs.literals.read_integer.Goals as goal

pub returns-then-starts_with : goal.returns-then-starts_with
returns-then-starts_with c = plus_none c.args.word.now (sym c.starts_with.ensures.value ∙ c.if-starts_with.true)

pub returns-in-Ok : goal.returns-in-Ok
returns-in-Ok c = parsed_integer c.args.word.now c.in-Ok.text.now c.parse.result c.ok.result (sym c.starts_with.ensures.value ∙ c.if-starts_with.false)
    c.in-Ok.ensures.cases.0 c.parse.ensures.value.0 c.ok.ensures.value

pub returns-in-Err : goal.returns-in-Err
returns-in-Err c = text_none c.args.word.now c.in-Err.ensures.cases.0
