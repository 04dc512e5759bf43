use Rattle.std.proofs.Common.{◌≡◌, ◌++◌, Some}
use Rattle.std.specs.List.{flat_map}
use Rattle.settings_machine.specs.Typed.{wanted_in}
use Rattle.store_report.specs.IllTyped.{told, ill_of}
use Rattle.store_report.proofs.found.push_all_of.Given as goal

-- What is to be told of the pending ones before those that are left is there.
abbrev pub invariant-loop-key : goal.invariant-loop-key
invariant-loop-key l = l.found.items ++ flat_map (λ e. told (Some l.tx) (wanted_in l.types e)) l.key-iterator
    ≡ l.initial.found.items ++ ill_of l.types (l.tx, l.pending)
