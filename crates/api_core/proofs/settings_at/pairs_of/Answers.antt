use Rattle.std.proofs.Common.{rules}
use Rattle.settings_tree.proofs.Walks.{listed_more}
use Rattle.api_core.proofs.settings_at.pairs_of.Goals as goal

pub loop-key-preserved : goal.loop-key-preserved
loop-key-preserved c = listed_more _ c.loop-key.pairs.items _ _ c.next.new.self _ c.loop-key.invariant c.in-Some.ensures.steps (search rules)
