use Rattle.std.proofs.Common.{arith, []}
use Rattle.load_input.specs.Image.{line_in}
use Rattle.load_input.proofs.Counting.{lists_more}
use Rattle.load_input.proofs.template_text.template_text.Goals as goal

pub loop-i-preserved : goal.loop-i-preserved
loop-i-preserved c = grind (arith, lists_more (line_in c.args.service) [] c.loop-i.i)
