use Rattle.std.proofs.Common.{◌≡◌, sym, ◌∙◌, length, arith}
use Rattle.template_reader.specs.Bytes.{is_space}
use Rattle.template_reader.proofs.WordParts.{part-step, part-stop, part-end}
use Rattle.template_reader.proofs.words.word_length.Goals as goal

pub returns-then-ends_word-clause-value : goal.returns-then-ends_word-clause-value
returns-then-ends_word-clause-value c = part-stop is_space c.loop-i.quoted c.args.bytes.now c.loop-i.i c.loop-i.invariant c.loop-i-test.true
    (sym c.ends_word.ensures ∙ c.if-ends_word.true)

pub loop-i-preserved : goal.loop-i-preserved
loop-i-preserved c = rw c.is_quoted_after-quoted.ensures (part-step is_space c.loop-i.quoted c.args.bytes.now c.loop-i.i c.loop-i.invariant c.loop-i-test.true
    (sym c.ends_word.ensures ∙ c.if-ends_word.false))

pub returns-clause-value : goal.returns-clause-value
returns-clause-value c =
    let at_end : length c.args.bytes.now ≡ c.loop-i.i = omega arith in
    at_end ∙ part-end is_space c.loop-i.quoted c.args.bytes.now c.loop-i.i c.loop-i.invariant at_end
