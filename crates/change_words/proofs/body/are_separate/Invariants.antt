use Rattle.std.proofs.Common.{◌≡◌, length}
use Rattle.change_words.specs.Said.{are_separate}
use Rattle.change_words.proofs.body.are_separate.Given as goal

-- what is left decides
abbrev pub invariant-loop-rest : goal.invariant-loop-rest
invariant-loop-rest l = are_separate l.rest ≡ are_separate l.changes

abbrev pub decreases-loop-rest : goal.decreases-loop-rest
decreases-loop-rest l = length l.rest
