use Rattle.std.proofs.Common.{sym}
use Rattle.api_core.proofs.Names.{below_some, below_none}
use Rattle.api_core.proofs.named_values.has_below.Goals as goal

pub returns-in_default : goal.returns-in_default
returns-in_default c = sym (below_none c.args.live.now.values c.args.key.now c.in_default.ensures.none)

pub returns : goal.returns
returns c = sym (below_some c.args.live.now.values c.args.key.now _ _ c.in-Some.ensures.least)
