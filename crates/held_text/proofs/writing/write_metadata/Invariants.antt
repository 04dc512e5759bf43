use Rattle.std.specs.FinMap.{entries}
use Rattle.held_text.specs.HeldText.{rows_at, row_data}
use Rattle.held_text.specs.HeldRules.{IsRow}
use Rattle.held_text.proofs.HeldWalks.{Writing}
use Rattle.held_text.proofs.writing.write_metadata.Given as goal

-- The rows of the keys before this one are written.
abbrev pub invariant-loop-key : goal.invariant-loop-key
invariant-loop-key l = Writing rows_at row_data IsRow (entries l.metadata) l.key-iterator l.initial.writer l.writer
