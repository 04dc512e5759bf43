use Rattle.std.proofs.Common.{[], ◌∷◌, drop}
use Rattle.held_text.specs.HeldText.{row_data}
use Rattle.held_text.specs.HeldRules.{IsRow}
use Rattle.held_text.proofs.HeldWalks.{Writing}
use Rattle.held_text.proofs.writing.write_rows.Given as goal

-- The names before this one are written.
abbrev pub invariant-loop-name : goal.invariant-loop-name
invariant-loop-name l = Writing (λ e. (l.key, e.0, e.1) ∷ []) row_data IsRow l.name-items (drop l.name-index l.name-items) l.initial.writer l.writer
