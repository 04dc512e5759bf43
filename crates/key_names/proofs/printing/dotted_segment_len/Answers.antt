use Rattle.std.proofs.Common.{List, ℕ, length, ap, arith}
use Rattle.key_names.specs.Segment.{printed_segment}
use Rattle.key_names.proofs.Printed.{short_printed}
use Rattle.key_names.proofs.printing.dotted_segment_len.Goals as goal

pub overflow_add-result : goal.overflow_add-result
overflow_add-result c = omega (
  arith,
  c.printed_segment_len.ensures,
  ap (λ (s : List ℕ). length (printed_segment s)) c.as_bytes.ensures.value,
  short_printed
      c.args.segment.now c.requires,
)

pub returns-clause-value : goal.returns-clause-value
returns-clause-value c = omega (arith, c.printed_segment_len.ensures, ap (λ (s : List ℕ). length (printed_segment s)) c.as_bytes.ensures.value)

pub returns-clause-bound : goal.returns-clause-bound
returns-clause-bound c = omega (
  arith,
  c.printed_segment_len.ensures,
  ap (λ (s : List ℕ). length (printed_segment s)) c.as_bytes.ensures.value,
  short_printed
      c.args.segment.now c.requires,
)
