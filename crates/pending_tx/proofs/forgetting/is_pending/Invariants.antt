use Rattle.std.proofs.Common.{◌≡◌, length, is_some}
use Rattle.std.specs.List.{list_any}
use Rattle.std.specs.FinMap.{entries, get}
use Rattle.std.specs.Option.{option_copied}
use Rattle.settings_tree.specs.Walks.{entries_past}
use Rattle.pending_tx.proofs.forgetting.is_pending.Given as goal

abbrev pub invariant-loop-tx : goal.invariant-loop-tx
invariant-loop-tx l = list_any (λ t. is_some (get t.1 l.key)) (entries_past l.held.pending (option_copied l.after)) ≡ list_any (λ t. is_some (get t.1 l.key))
    (entries l.held.pending)

abbrev pub decreases-loop-tx : goal.decreases-loop-tx
decreases-loop-tx l = length (entries_past l.held.pending (option_copied l.after))
