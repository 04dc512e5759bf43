use Rattle.migrate_helpers.proofs.EditSteps.{without_falls}
use Rattle.migrate_helpers.proofs.Moved.{split_start, split_next, split_end}
use Rattle.migrate_helpers.proofs.live.values_of.Goals as goal

pub loop-values-init : goal.loop-values-init
loop-values-init c = split_start c.args.settings c.new-values.result c.new-values.ensures

pub loop-values-preserved : goal.loop-values-preserved
loop-values-preserved c = split_next c.in-Some.key c.args.settings c.loop-values.settings c.move_value.new.settings c.loop-values.values c.move_value.new.values
    (rw c.in-Some.is at c.in_ok-key.ensures.stands) c.in_ok-move_value.ensures.taken c.in_ok-move_value.ensures.put c.loop-values.invariant

pub loop-values-smaller : goal.loop-values-smaller
loop-values-smaller c = without_falls c.loop-values.settings c.move_value.new.settings c.in-Some.key (rw c.in-Some.is at c.in_ok-key.ensures.stands)
    c.in_ok-move_value.ensures.taken

pub returns : goal.returns
returns c = split_end c.args.settings c.loop-values.settings c.loop-values.values (rw c.in_default.is at c.in_ok-key.ensures.none) c.loop-values.invariant
