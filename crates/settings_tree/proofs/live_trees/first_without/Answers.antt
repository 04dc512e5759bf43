use Rattle.settings_tree.proofs.Firsts.{one_more, first, everywhere}
use Rattle.settings_tree.proofs.live_trees.first_without.Goals as goal

pub returns-in_default-clause-first : goal.returns-in_default-clause-first
returns-in_default-clause-first c = first c.args.live.now.values c.args.keys.now c.loop-key.key-index c.key-item.result c.loop-key-test.true c.key-item.is
    c.loop-key.invariant c.in_default.ensures.none

pub loop-key-preserved : goal.loop-key-preserved
loop-key-preserved c = one_more c.args.live.now.values c.args.keys.now c.loop-key.key-index c.key-item.result _ _ c.loop-key-test.true c.key-item.is
    c.loop-key.invariant c.in-Some.ensures.least

pub returns-clause-none : goal.returns-clause-none
returns-clause-none c = everywhere c.args.live.now.values c.args.keys.now c.loop-key.key-index c.loop-key-test.false c.loop-key.invariant
