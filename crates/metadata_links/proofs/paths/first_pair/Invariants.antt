use Rattle.std.proofs.Common.{◌≡◌, length, map}
use Rattle.std.specs.List.{find}
use Rattle.metadata_links.specs.Faults.{pairs_of}
use Rattle.metadata_links.specs.Paths.{clash_in}
use Rattle.metadata_links.proofs.paths.first_pair.Given as goal

abbrev pub invariant-loop-row : goal.invariant-loop-row
invariant-loop-row l = find (λ q. clash_in l.clash q.0 q.1) (pairs_of (map (λ e. e.1) l.rest)) ≡ find (λ q. clash_in l.clash q.0 q.1)
    (pairs_of (map (λ e. e.1) l.files))

abbrev pub decreases-loop-row : goal.decreases-loop-row
decreases-loop-row l = length l.rest
