use Rattle.std.proofs.Common.{◌∙◌}
use Rattle.disk_memory.proofs.Copies.{copies_none, copies_more}
use Rattle.disk_memory.proofs.map.copy_of_nodes.Goals as goal

pub loop-path-init : goal.loop-path-init
loop-path-init c =
    let all = c.into_iter-path-iterator.ensures.into_iter_gives ∙ c.iter-path-items.ensures.rest in
    copies_none c.args.nodes.now c.new-copy.result _ c.new-copy.ensures.empty all c.iter-path-items.ensures.ordered

pub loop-path-preserved : goal.loop-path-preserved
loop-path-preserved c = copies_more c.loop-path.copy c.add_copy.new.copies c.in-Some.path.now c.in-Some.node.now _ c.next.new.self _ c.in-Some.ensures.steps
    c.in_ok-add_copy.ensures c.loop-path.invariant
