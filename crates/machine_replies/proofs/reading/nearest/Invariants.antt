use Rattle.std.proofs.Common.{◌≤◌, length}
use Rattle.machine_replies.proofs.reading.nearest.Given as goal

-- no more segments than the key has are left to try
abbrev pub invariant-loop-len : goal.invariant-loop-len
invariant-loop-len l = l.len ≤ length l.key

abbrev pub decreases-loop-len : goal.decreases-loop-len
decreases-loop-len l = l.len
