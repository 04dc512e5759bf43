use Rattle.std.proofs.Common.{◌≡◌, ◌++◌, length}
use Rattle.std.specs.Option.{option_copied}
use Rattle.settings_tree.specs.Walks.{entries_past}
use Rattle.pending_tx.specs.Entries.{taken_by}
use Rattle.pending_tx.specs.Transactions.{pending_at}
use Rattle.pending_tx.proofs.Takings.{taken_in}
use Rattle.pending_tx.proofs.forgetting.ended_entries.Given as goal

abbrev pub invariant-loop-tx : goal.invariant-loop-tx
invariant-loop-tx l = l.ended.items ++ taken_in l.keys (entries_past l.held.pending (option_copied l.after)) ≡ taken_by (pending_at l.held.pending l.keys)

abbrev pub decreases-loop-tx : goal.decreases-loop-tx
decreases-loop-tx l = length (entries_past l.held.pending (option_copied l.after))
