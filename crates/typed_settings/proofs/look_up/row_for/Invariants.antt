use Rattle.std.proofs.Common.{length}
use Rattle.std.specs.Prelude.{Contains}
use Rattle.typed_settings.specs.Order.{AreOrdered}
use Rattle.typed_settings.specs.Row.{HasRow}
use Rattle.typed_settings.specs.declared.row.Row.{Row}
use Rattle.typed_settings.proofs.look_up.row_for.Given as goal

abbrev pub invariant-loop-rest : goal.invariant-loop-rest
invariant-loop-rest l = record {
  ordered : AreOrdered l.rest;
  among : (row : Row) → Contains l.rest row → Contains l.rows row;
  has : (row : Row) → HasRow l.rows l.key row → HasRow l.rest l.key row;
}

abbrev pub decreases-loop-rest : goal.decreases-loop-rest
decreases-loop-rest l = length l.rest
