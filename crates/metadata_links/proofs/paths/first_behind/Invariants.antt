use Rattle.std.proofs.Common.{◌≡◌, drop, map}
use Rattle.std.specs.List.{find}
use Rattle.metadata_links.specs.Paths.{clash_in}
use Rattle.metadata_links.proofs.paths.first_behind.Given as goal

abbrev pub invariant-loop-other : goal.invariant-loop-other
invariant-loop-other l = find (λ other. clash_in l.clash l.row other) (map (λ e. e.1) (drop l.other-index l.others)) ≡ find
    (λ other. clash_in l.clash l.row other) (map (λ e. e.1) l.others)
