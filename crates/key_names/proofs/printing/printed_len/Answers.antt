use Rattle.std.proofs.Common.{arith}
use Rattle.key_names.specs.Packed.{segments_of}
use Rattle.key_names.proofs.Printed.{length-printed}
use Rattle.key_names.proofs.printing.printed_len.Goals as goal

pub overflow_sub-result : goal.overflow_sub-result
overflow_sub-result c = omega (arith, c.dotted_len.ensures.value, length-printed (segments_of c.args.text.now) c.requires.some)

pub returns : goal.returns
returns c = omega (arith, c.dotted_len.ensures.value, length-printed (segments_of c.args.text.now) c.requires.some)
