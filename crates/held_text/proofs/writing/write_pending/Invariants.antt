use Rattle.std.proofs.Common.{[], ◌∷◌}
use Rattle.std.specs.FinMap.{entries}
use Rattle.held_text.specs.HeldText.{transaction_data}
use Rattle.held_text.specs.HeldRules.{IsTransaction}
use Rattle.held_text.proofs.HeldWalks.{Writing}
use Rattle.held_text.proofs.writing.write_pending.Given as goal

-- The transactions before this one are written.
abbrev pub invariant-loop-tx : goal.invariant-loop-tx
invariant-loop-tx l = Writing (λ e. e ∷ []) transaction_data IsTransaction (entries l.pending) l.tx-iterator l.initial.writer l.writer
