use Rattle.std.proofs.Common.{arith}
use Rattle.version_links.proofs.Digits.{not_hex, not_long, all_read, one_more, read_more}
use Rattle.version_links.proofs.number.id.Goals as goal

pub returns-then-digits-ne16 : goal.returns-then-digits-ne16
returns-then-digits-ne16 c = not_long c.args.digits.now c.if-digits-ne16.true

pub overflow_mul-id : goal.overflow_mul-id
overflow_mul-id c = omega (arith, (one_more c.loop-glyph.glyph-index c.loop-glyph.id 0 (omega arith) (omega arith) c.loop-glyph.invariant.0).0)

pub returns-in_err-digit : goal.returns-in_err-digit
returns-in_err-digit c = rw c.from_residual.ensures (not_hex c.args.digits.now c.loop-glyph.glyph-index (omega arith) c.in_err-digit.ensures)

pub overflow_add-id : goal.overflow_add-id
overflow_add-id c = omega (
  arith,
  (one_more c.loop-glyph.glyph-index c.loop-glyph.id c.in_ok-digit.field-0 (omega arith) c.in_ok-digit.ensures.0
      c.loop-glyph.invariant.0).0,
)

pub loop-glyph-preserved : goal.loop-glyph-preserved
loop-glyph-preserved c = (
  omega (arith, (one_more c.loop-glyph.glyph-index c.loop-glyph.id c.in_ok-digit.field-0 (omega arith) c.in_ok-digit.ensures.0 c.loop-glyph.invariant.0).1),
  read_more c.args.digits.now c.loop-glyph.glyph-index c.loop-glyph.id c.in_ok-digit.field-0 c.from.result (omega arith) c.loop-glyph.invariant.1 c.from.ensures
      c.in_ok-digit.ensures.0 c.in_ok-digit.ensures.1,
)

pub returns : goal.returns
returns c = all_read c.args.digits.now c.loop-glyph.glyph-index c.loop-glyph.id c.if-digits-ne16.false
    (let low = c.loop-glyph-test.false in let high = c.loop-glyph.auto.glyph-index-end in let size = c.if-digits-ne16.false in omega arith)
    c.loop-glyph.invariant.1
