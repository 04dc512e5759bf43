use Rattle.disk_memory.proofs.Touches.{kept_more}
use Rattle.disk_memory.proofs.crash.follow_all.Goals as goal

pub loop-change-preserved : goal.loop-change-preserved
loop-change-preserved c = kept_more c.args.changes.now c.loop-change.change-index c.change-item.result _ _ _ _ _ _ c.loop-change-test.true c.change-item.is
    c.loop-change.invariant c.in_ok-follow.ensures
