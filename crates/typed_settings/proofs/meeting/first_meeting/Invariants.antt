use Rattle.std.proofs.Common.{ℕ, ◌<◌, get_or}
use Rattle.typed_settings.specs.Pattern.{Meet}
use Rattle.typed_settings.specs.declared.row.Row.{Row}
use Rattle.typed_settings.proofs.meeting.first_meeting.Given as goal

abbrev pub invariant-loop-i : goal.invariant-loop-i
invariant-loop-i l = (k : ℕ) (d : Row) → k < l.i → Meet (get_or l.rows k d).pattern l.pattern → ⊥
