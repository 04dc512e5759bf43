use Rattle.std.proofs.Common.{take}
use Rattle.typed_settings.specs.Row.{AreSpelled}
use Rattle.typed_settings.proofs.given.rows_of.Given as goal

abbrev pub invariant-loop-index : goal.invariant-loop-index
invariant-loop-index l = AreSpelled (take l.index l.texts) l.rows.items
