use Rattle.std.proofs.Common.{◌≡◌, take}
use Rattle.pending_tx.specs.Transactions.{last_of}
use Rattle.pending_tx.proofs.pairs.last_of.Given as goal

abbrev pub invariant-loop-key : goal.invariant-loop-key
invariant-loop-key l = l.last ≡ last_of (take l.key-index l.pairs)
