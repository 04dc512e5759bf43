use Rattle.serde_json.specs.View.{members_view}
use Rattle.json_trees.specs.Tree.{path_of}
use Rattle.json_trees.proofs.Gathering.{Gathering}
use Rattle.json_trees.proofs.flattening.+flatten.Given as goal

abbrev pub invariant-push_members-loop-name : goal.invariant-push_members-loop-name
invariant-push_members-loop-name g l =
    (goal.iterator-push_members-loop-name g).can_next l.name-iterator ×
    (goal.iterator-push_members-loop-name g).is_finite l.name-iterator ×
    Gathering g.L.Leaf.leaf (path_of l.under) (members_view l.fn.members.entries) (members_view l.name-iterator) l.initial.pairs.items l.pairs.items
