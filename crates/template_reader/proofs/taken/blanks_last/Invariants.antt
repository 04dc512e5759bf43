use Rattle.std.proofs.Common.{length, ◌≡◌, ◌≤◌, ◌+◌, take}
use Rattle.std.specs.List.{suffix_len}
use Rattle.template_reader.specs.Bytes.{is_blank}
use Rattle.template_reader.proofs.taken.blanks_last.Given as goal

abbrev pub invariant-loop-n : goal.invariant-loop-n
invariant-loop-n l = (l.n ≤ length l.bytes) × (l.n + suffix_len is_blank l.bytes ≡ length l.bytes + suffix_len is_blank (take l.n l.bytes))

abbrev pub decreases-loop-n : goal.decreases-loop-n
decreases-loop-n l = l.n
