use Rattle.std.specs.FinMap.{len}
use Rattle.migrate_helpers.proofs.Moved.{Split}
use Rattle.migrate_helpers.proofs.live.values_of.Given as goal

abbrev pub invariant-loop-values : goal.invariant-loop-values
invariant-loop-values l = Split l.fn.settings l.settings l.values

abbrev pub decreases-loop-values : goal.decreases-loop-values
decreases-loop-values l = len l.settings
