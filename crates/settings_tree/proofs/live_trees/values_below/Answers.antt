use Rattle.std.specs.Option.{option_copied}
use Rattle.key_names.specs.Order.{key_total, key_cmp-IsAntisymmetric}
use Rattle.settings_tree.proofs.ApartKeys.{some_apart}
use Rattle.settings_tree.proofs.Walks.{walk_falls}
use Rattle.settings_tree.specs.Below.{is_below_one}
use Rattle.settings_tree.proofs.Walked as walk
use Rattle.settings_tree.proofs.live_trees.values_below.Goals as goal

pub loop-key-init : goal.loop-key-init
loop-key-init c = walk.start c.args.live.now.values c.args.keys.now c.new-pairs.result.items c.new-pairs.ensures.items

pub loop-key-smaller : goal.loop-key-smaller
loop-key-smaller c = walk_falls key_total key_cmp-IsAntisymmetric c.args.live.now.values (option_copied c.loop-key.after) c.in-Some.key.now c.in-Some.value.now
    c.in-Some.ensures.least

pub loop-key-preserved : goal.loop-key-preserved
loop-key-preserved c = walk.next c.args.live.now.values c.args.keys.now c.loop-key.pairs.items c.push_value.new.pairs.items (option_copied c.loop-key.after)
    c.in-Some.key.now c.in-Some.value.now c.in-Some.ensures.least c.loop-key.invariant c.in_ok-push_value.ensures.pushed c.push_value.ensures.long

all : goal.returns-clause-values
all c = walk.end c.args.live.now.values c.args.keys.now c.loop-key.pairs.items (option_copied c.loop-key.after) c.in_default.ensures.none c.loop-key.invariant

pub returns-clause-values : goal.returns-clause-values
returns-clause-values c = all c

pub returns-clause-apart : goal.returns-clause-apart
returns-clause-apart c = some_apart c.args.live.now.values c.next_value.ensures.valid.rule (λ e. is_below_one c.args.keys.now e.0) c.loop-key.pairs.items
    (all c)

pub returns-clause-shared : goal.returns-clause-shared
returns-clause-shared c = walk.share_none c.args.live.now.values c.args.keys.now c.loop-key.pairs.items (option_copied c.loop-key.after) c.loop-key.invariant
