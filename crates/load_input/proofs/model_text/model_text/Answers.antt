use Rattle.std.proofs.Common.{arith, ◌++◌}
use Rattle.std.specs.List.{flat_map}
use Rattle.load_input.specs.Numbers.{below}
use Rattle.load_input.specs.Image.{type_lines, service_lines, setting_lines}
use Rattle.load_input.proofs.Counting.{lists_more}
use Rattle.load_input.proofs.model_text.model_text.Goals as goal

pub loop-i-preserved : goal.loop-i-preserved
loop-i-preserved c = grind (arith, lists_more setting_lines (type_lines ++ flat_map service_lines (below 10)) c.loop-i.i)
