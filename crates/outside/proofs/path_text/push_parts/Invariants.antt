use Rattle.std.proofs.Common.{◌≡◌, ◌==◌, length}
use Rattle.std.specs.List.{slice_split}
use Rattle.outside.specs.PathText.{with_parts}
use Rattle.outside.proofs.path_text.push_parts.Given as goal

-- the parts that are left are to be added to the path so far
abbrev pub invariant-loop-front : goal.invariant-loop-front
invariant-loop-front l = with_parts l.initial.path (slice_split (λ c. c == 47) l.initial.rest) ≡ with_parts l.path (slice_split (λ c. c == 47) l.rest)

abbrev pub decreases-loop-front : goal.decreases-loop-front
decreases-loop-front l = length l.rest
