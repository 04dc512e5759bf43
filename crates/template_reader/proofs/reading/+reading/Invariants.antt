use Rattle.std.proofs.Common.{◌+◌, ◌-◌, ◌*◌, length}
use Rattle.template_reader.specs.Tree.{done}
use Rattle.template_reader.specs.Forest.{tree_of}
use Rattle.template_reader.specs.Reading.{Moves}
use Rattle.template_reader.proofs.reading.+reading.Given as goal

abbrev pub decreases-read_one : goal.decreases-read_one
decreases-read_one l = 4 * (length l.body.now - l.rest.from) + 1

abbrev pub decreases-read_part : goal.decreases-read_part
decreases-read_part l = 4 * (length l.body.now - l.rest.from) + 2

abbrev pub decreases-read_block : goal.decreases-read_block
decreases-read_block l = 4 * (length l.body.now - l.rest.from) + 4

abbrev pub decreases-read_other : goal.decreases-read_other
decreases-read_other l = 4 * (length l.body.now - l.rest.from) + 3

abbrev pub invariant-read_part-loop-nodes : goal.invariant-read_part-loop-nodes
invariant-read_part-loop-nodes l = Moves l.base l.body l.fn.rest.from l.fn.rest.taken l.level.depth l.level.in_each done (tree_of l.nodes.items) l.left.from
    l.left.taken

abbrev pub decreases-read_part-loop-nodes : goal.decreases-read_part-loop-nodes
decreases-read_part-loop-nodes l = length l.body - l.left.from
