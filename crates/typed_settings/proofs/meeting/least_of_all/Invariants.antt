use Rattle.std.proofs.Common.{take}
use Rattle.typed_settings.specs.Row.{AreApart}
use Rattle.typed_settings.proofs.meeting.least_of_all.Given as goal

abbrev pub invariant-loop-second : goal.invariant-loop-second
invariant-loop-second l = AreApart (take l.second l.rows)
