use Rattle.std.proofs.Common.{◌≡◌, ◌++◌, length, map}
use Rattle.std.specs.FinMap.{keys}
use Rattle.std.specs.Option.{option_copied}
use Rattle.settings_tree.specs.Walks.{entries_past}
use Rattle.pending_tx.proofs.reading.list.Given as goal

abbrev pub invariant-loop-tx : goal.invariant-loop-tx
invariant-loop-tx l = l.names.items ++ map (λ e. e.0) (entries_past l.held.pending (option_copied l.after)) ≡ keys l.held.pending

abbrev pub decreases-loop-tx : goal.decreases-loop-tx
decreases-loop-tx l = length (map (λ e. e.0) (entries_past l.held.pending (option_copied l.after)))
