use Rattle.std.proofs.Common.{◌≡◌, ◌+◌, ◌-◌, ◌*◌, length}
use Rattle.json_trees.proofs.Objects.{Nesting}
use Rattle.json_trees.proofs.nesting.+nest.Given as goal

abbrev pub decreases-write_member : goal.decreases-write_member
decreases-write_member g l = 2 * (32 - l.level)

abbrev pub decreases-write_members : goal.decreases-write_members
decreases-write_members g l = 2 * (32 - l.level) + 1

abbrev pub invariant-write_members-loop-rest : goal.invariant-write_members-loop-rest
invariant-write_members-loop-rest g l = record {
  nesting : Nesting g.L.Leaf.leaf g.L.Leaf.written l.level l.pairs l.rest l.initial.writer.tokens l.writer.tokens;
  before : l.writer.before ≡ l.initial.writer.before;
}

abbrev pub decreases-write_members-loop-rest : goal.decreases-write_members-loop-rest
decreases-write_members-loop-rest g l = length l.rest
