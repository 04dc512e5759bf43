use Rattle.std.proofs.Common.{◌≡◌, take, true}
use Rattle.commit_journal.specs.Entries.{are_rising}
use Rattle.commit_journal.proofs.reading.are_rising.Given as goal

abbrev pub invariant-loop-i : goal.invariant-loop-i
invariant-loop-i l = are_rising (take l.i l.entries) ≡ true
