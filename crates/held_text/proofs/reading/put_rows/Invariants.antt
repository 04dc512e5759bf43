use Rattle.std.proofs.Common.{map}
use Rattle.std.specs.Vec.Iter.{into_iter_items}
use Rattle.serde_json.specs.View.{view}
use Rattle.held_text.proofs.RowsBack.{RowsFilling}
use Rattle.held_text.proofs.reading.put_rows.Given as goal

-- The rows that were taken are put.
abbrev pub invariant-loop-row : goal.invariant-loop-row
invariant-loop-row l =
    (goal.iterator-loop-row).can_next l.row-iterator ×
    (goal.iterator-loop-row).is_finite l.row-iterator ×
    RowsFilling (view l.fn.list) l.initial.content l.content (map view (into_iter_items l.row-iterator))
