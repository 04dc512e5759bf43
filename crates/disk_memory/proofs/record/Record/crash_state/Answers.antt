use Rattle.std.proofs.Common.{subst, List}
use Rattle.outside.specs.History.{begun}
use Rattle.disk_memory.specs.Nodes.{tree_in}
use Rattle.disk_memory.specs.Disk.{told_by}
use Rattle.disk_memory.specs.Recorded.{StaysKept}
use Rattle.disk_memory.specs.declared.change.Change.{Change}
use Rattle.disk_memory.proofs.Touches.{kept_begun}
use Rattle.disk_memory.proofs.record.Record.crash_state.Goals as goal

pub returns : goal.returns
returns c =
    let record_kept = c.args.self.now in
    let followed = subst (λ (cs : List Change). StaysKept cs c.in_ok-nodes.nodes c.follow_all.new.nodes c.new-touches.result c.follow_all.new.touches)
    c.deref.ensures.value c.in_ok-follow_all.ensures in
    c.in_ok-lay_picks.ensures.picked (told_by record_kept) (followed.stays (begun (tree_in record_kept.began))
    (kept_begun record_kept.began c.in_ok-nodes.nodes c.new-touches.result c.in_ok-nodes.ensures c.new-touches.ensures.empty))
