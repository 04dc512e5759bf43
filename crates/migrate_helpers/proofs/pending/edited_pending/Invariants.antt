use Rattle.migrate_helpers.specs.Borrowed.{step_of}
use Rattle.migrate_helpers.specs.Laws.Transactions.{Edited}
use Rattle.migrate_helpers.proofs.pending.edited_pending.Given as goal

abbrev pub invariant-loop-tx : goal.invariant-loop-tx
invariant-loop-tx l = Edited (step_of l.edit) l.pending l.made l.tx-iterator
