use Rattle.std.proofs.Common.{◌≡◌, ◌++◌}
use Rattle.std.specs.List.{flat_map}
use Rattle.store_report.specs.IllTyped.{ill_of, ill_pending}
use Rattle.store_report.proofs.found.push_all_pending.Given as goal

-- What is to be told of the transactions before those that are left is there.
abbrev pub invariant-loop-tx : goal.invariant-loop-tx
invariant-loop-tx l = l.found.items ++ flat_map (ill_of l.types) l.tx-iterator ≡ l.initial.found.items ++ ill_pending l.types l.transactions
