use Rattle.std.proofs.Common.{map}
use Rattle.std.specs.Vec.Iter.{into_iter_items}
use Rattle.serde_json.specs.View.{view}
use Rattle.held_text.specs.HeldText.{transaction_data}
use Rattle.held_text.specs.HeldRules.{IsWholeTransaction, ArePending}
use Rattle.settings_tree.specs.Pending.{IsPending}
use Rattle.held_text.proofs.Fillings.{Filling}
use Rattle.held_text.proofs.reading.pending_of.Given as goal

-- The transactions that were taken are put, and keep the rules.
abbrev pub invariant-loop-transaction : goal.invariant-loop-transaction
invariant-loop-transaction l =
    (goal.iterator-loop-transaction).can_next l.transaction-iterator ×
    (goal.iterator-loop-transaction).is_finite l.transaction-iterator ×
    Filling transaction_data IsWholeTransaction ArePending (view l.fn.list) l.transactions (map view (into_iter_items l.transaction-iterator)) ×
    IsPending l.transactions
