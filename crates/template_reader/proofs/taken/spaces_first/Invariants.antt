use Rattle.std.proofs.Common.{length, ◌-◌, ◌≡◌, ◌≤◌, ◌+◌, drop}
use Rattle.std.specs.List.{prefix_len}
use Rattle.template_reader.specs.Bytes.{is_space}
use Rattle.template_reader.proofs.taken.spaces_first.Given as goal

abbrev pub invariant-loop-n : goal.invariant-loop-n
invariant-loop-n l = (l.n ≤ length l.bytes) × (prefix_len is_space l.bytes ≡ l.n + prefix_len is_space (drop l.n l.bytes))

abbrev pub decreases-loop-n : goal.decreases-loop-n
decreases-loop-n l = length l.bytes - l.n
