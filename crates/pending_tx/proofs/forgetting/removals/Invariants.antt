use Rattle.std.proofs.Common.{◌≡◌, take}
use Rattle.pending_tx.specs.Transactions.{removals}
use Rattle.pending_tx.proofs.forgetting.removals.Given as goal

abbrev pub invariant-loop-key : goal.invariant-loop-key
invariant-loop-key l = l.pairs.items ≡ removals (take l.key-index l.keys)
