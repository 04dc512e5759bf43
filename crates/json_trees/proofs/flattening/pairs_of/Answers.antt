use Rattle.std.proofs.Common.{◌≡◌, Some, option_map, ap, sym, ◌∙◌}
use Rattle.std.proofs.lemmas.Result.{IfOk-weaker}
use Rattle.serde_json.specs.View.{view}
use Rattle.json_trees.specs.Json.{data_of}
use Rattle.json_trees.specs.Tree.{path_of}
use Rattle.json_trees.proofs.RisingNames.{HasRisingNames-data_of}
use Rattle.json_trees.proofs.Flat.{AreApart-tree_pairs, ShareFirst-tree_pairs, All_below-tree_pairs}
use Rattle.json_trees.proofs.flattening.pairs_of.Goals as goal

pub returns-in-Some-clause-apart : goal.returns-in-Some-clause-apart
returns-in-Some-clause-apart g c =
    let read : data_of c.args.json.now ≡ Some (view c.in-Some.value) = sym c.in_ok-value.ensures ∙ ap (option_map view) c.in-Some.is in
    IfOk-weaker c.object_pairs.result _ _
    (λ pairs e. AreApart-tree_pairs g.L.Leaf.leaf (path_of c.args.under) (view c.in-Some.value) pairs.items (HasRisingNames-data_of c.args.json.now _ read) e)
    c.object_pairs.ensures.ok

pub returns-in-Some-clause-shared : goal.returns-in-Some-clause-shared
returns-in-Some-clause-shared g c =
    IfOk-weaker c.object_pairs.result _ _ (λ pairs e. ShareFirst-tree_pairs g.L.Leaf.leaf (path_of c.args.under) (view c.in-Some.value) pairs.items e)
    c.object_pairs.ensures.ok

pub returns-in-Some-clause-below : goal.returns-in-Some-clause-below
returns-in-Some-clause-below g c =
    IfOk-weaker c.object_pairs.result _ _ (λ pairs e. All_below-tree_pairs g.L.Leaf.leaf (path_of c.args.under) (view c.in-Some.value) pairs.items e)
    c.object_pairs.ensures.ok
