use Rattle.std.proofs.Common.{arith, []}
use Rattle.load_input.specs.Requests.{changes_of}
use Rattle.load_input.proofs.Counting.{lists_more}
use Rattle.load_input.proofs.request_bytes.requests.Goals as goal

pub loop-i-preserved : goal.loop-i-preserved
loop-i-preserved c = grind (arith, lists_more changes_of [] c.loop-i.i)
