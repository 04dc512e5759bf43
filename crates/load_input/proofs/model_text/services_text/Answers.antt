use Rattle.std.proofs.Common.{arith, []}
use Rattle.load_input.specs.Image.{service_lines}
use Rattle.load_input.proofs.Counting.{lists_more}
use Rattle.load_input.proofs.model_text.services_text.Goals as goal

pub loop-j-preserved : goal.loop-j-preserved
loop-j-preserved c = grind (arith, lists_more service_lines [] c.loop-j.j)
