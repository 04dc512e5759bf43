use Rattle.std.proofs.Common.{◌≡◌, ◌++◌, Ok, map}
use Rattle.std.specs.Vec.Iter.{into_iter_items}
use Rattle.serde_json.specs.View.{view}
use Rattle.json_trees.specs.Collected.{collected}
use Rattle.json_trees.specs.Scalar.{item_of}
use Rattle.json_trees.proofs.reading.items_of.Given as goal

abbrev pub invariant-loop-value : goal.invariant-loop-value
invariant-loop-value l =
    (goal.iterator-loop-value).can_next l.value-iterator ×
    (goal.iterator-loop-value).is_finite l.value-iterator ×
    (l.fn.values.items ≡ l.yielded ++ into_iter_items l.value-iterator) ×
    (collected item_of (map view l.yielded) ≡ Ok l.items.items)
