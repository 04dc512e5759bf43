use Rattle.std.proofs.Common.{ℕ, ◌+◌, ◌<◌, get_or, Bor}
use Rattle.std.specs.Prelude.{IsTrue}
use Rattle.typed_settings.specs.Order.{is_plainly_before}
use Rattle.typed_settings.specs.declared.row.Row.{Row}
use Rattle.typed_settings.proofs.meeting.ascend_plainly.Given as goal

abbrev pub invariant-loop-i : goal.invariant-loop-i
invariant-loop-i l = (k : ℕ) (d : Bor Row) → k + 1 < l.i → IsTrue (is_plainly_before (get_or l.rows k d).now.pattern (get_or l.rows (k + 1) d).now.pattern)
