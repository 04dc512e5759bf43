use Rattle.std.proofs.Common.{map}
use Rattle.std.specs.Vec.Iter.{into_iter_items}
use Rattle.serde_json.specs.View.{view}
use Rattle.held_text.proofs.KeysLeft.{KeysFilling}
use Rattle.held_text.proofs.reading.key_list_of.Given as goal

-- The keys that were taken are read.
abbrev pub invariant-loop-value : goal.invariant-loop-value
invariant-loop-value l =
    (goal.iterator-loop-value).can_next l.value-iterator ×
    (goal.iterator-loop-value).is_finite l.value-iterator ×
    KeysFilling (view l.fn.list) l.keys.items (map view (into_iter_items l.value-iterator))
