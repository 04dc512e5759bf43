use Rattle.std.proofs.Common.{take}
use Rattle.disk_memory.specs.Recorded.{StaysKept}
use Rattle.disk_memory.proofs.crash.follow_all.Given as goal

abbrev pub invariant-loop-change : goal.invariant-loop-change
invariant-loop-change l = StaysKept (take l.change-index l.changes) l.initial.nodes l.nodes l.initial.touches l.touches
