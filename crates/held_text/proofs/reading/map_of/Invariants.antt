use Rattle.std.proofs.Common.{map}
use Rattle.std.specs.Vec.Iter.{into_iter_items}
use Rattle.serde_json.specs.View.{view}
use Rattle.json_trees.specs.Nested.{IsSound}
use Rattle.held_text.specs.HeldText.{pair_data}
use Rattle.held_text.specs.HeldRules.{IsMap}
use Rattle.settings_tree.specs.Rule.{IsPrefixFree}
use Rattle.held_text.proofs.Fillings.{Filling}
use Rattle.held_text.proofs.reading.map_of.Given as goal

-- The map has the pairs that were taken, and keeps the prefix rule.
abbrev pub invariant-loop-pair : goal.invariant-loop-pair
invariant-loop-pair g l =
    (goal.iterator-loop-pair g).can_next l.pair-iterator ×
    (goal.iterator-loop-pair g).is_finite l.pair-iterator ×
    Filling (pair_data g.L.Leaf.written) (IsSound g.L.Leaf.leaf g.L.Leaf.written) (IsMap g.L.Leaf.leaf g.L.Leaf.written) (view l.fn.list) l.map
    (map view (into_iter_items l.pair-iterator)) ×
    IsPrefixFree l.map
