use Rattle.std.proofs.Common.{◌≡◌, ◌++◌, filter, map}
use Rattle.std.specs.FinMap.{get}
use Rattle.pending_tx.specs.Transactions.{changed_in, differs}
use Rattle.pending_tx.proofs.live_changes.changed_in.Given as goal

abbrev pub invariant-loop-key : goal.invariant-loop-key
invariant-loop-key l = l.keys.items ++ map (λ e. e.0) (filter (λ e. differs e.1 (get l.held.live.values e.0)) l.key-iterator) ≡ changed_in l.held l.pending
