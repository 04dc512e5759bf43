use Rattle.std.proofs.Common.{◌≡◌, ◌++◌, None}
use Rattle.std.specs.List.{flat_map}
use Rattle.store_report.specs.IllTyped.{told, wanted_live, ill_live}
use Rattle.store_report.proofs.found.push_all_live.Given as goal

-- What is to be told of the values before those that are left is there.
abbrev pub invariant-loop-key : goal.invariant-loop-key
invariant-loop-key l = l.found.items ++ flat_map (λ e. told None (wanted_live l.types e)) l.key-iterator
    ≡ l.initial.found.items ++ ill_live l.types l.live.values
