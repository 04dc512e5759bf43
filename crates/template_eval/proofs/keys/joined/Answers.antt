use Rattle.std.proofs.Common.{[], arith, rules}
use Rattle.json_trees.proofs.LongerKeys.{ends}
use Rattle.template_eval.proofs.LongerKeys.{goes_on}
use Rattle.template_eval.proofs.keys.joined.Goals as goal

pub returns-in-None : goal.returns-in-None
returns-in-None c =
    ends c.args.key.now c.args.names.now c.loop-index.joined c.loop-index.index c.segment.result.now [] (omega (arith, c.len-index-end.ensures.count))
    c.loop-index.invariant.0 c.segment.ensures.bytes (search rules)

pub loop-index-preserved : goal.loop-index-preserved
loop-index-preserved c =
    goes_on c.args.key.now c.args.names.now c.loop-index.joined c.in-Some.key c.loop-index.index c.segment.result.now
    (omega (arith, c.len-index-end.ensures.count)) c.loop-index.invariant.0 c.segment.ensures.bytes (search rules)
