-- The tree of the nodes that a disk was given.
use Rattle.std.proofs.Common.{◌≡◌, List, [], ◌∷◌, ◌++◌, reverse, Option, Some, None, Bool, cond, true, false, refl, sym, ◌∙◌, ap}
use Rattle.std.specs.Prelude.{option_map}
use Rattle.std.specs.Option.{option_or}
use Rattle.std.specs.Ordering.{eq_by_cmp}
use Rattle.std.specs.BTreeMap.{BTreeMap, IsFromIterResult}
use Rattle.std.specs.Map.{lookup, update, update_all}
use Rattle.std.specs.FinMap.{get-from_entries}
use Rattle.std.proofs.lemmas.List.{reverse-append}
use Rattle.outside.specs.Names.{Names, path_cmp}
use Rattle.outside.specs.Order.{path_total, paths_equal}
use Rattle.outside.proofs.Trees.{same_tree}
use Rattle.disk_memory.specs.Nodes.{node_of, tree_in, tree_of_last, nodes_of}
use Rattle.disk_memory.specs.declared.node.Node.{Node}
use Rattle.disk_memory.proofs.Keys.{get-seen, found}

-- a look-up in a list with one entry more at its end
lookup-push : (q : Names) (es : List (Names × Node)) (e : Names × Node) → lookup (eq_by_cmp path_cmp q) (es ++ e ∷ []) ≡ option_or
    (lookup (eq_by_cmp path_cmp q) es) (cond (eq_by_cmp path_cmp q e.0) (Some e.1) None)
lookup-push q [] e = refl
lookup-push q (d ∷ es) e =
    elim (eq_by_cmp path_cmp q d.0) as (λ b. cond b (Some d.1) (lookup (eq_by_cmp path_cmp q) (es ++ e ∷ [])) ≡ option_or
    (cond b (Some d.1) (lookup (eq_by_cmp path_cmp q) es)) (cond (eq_by_cmp path_cmp q e.0) (Some e.1) None)) [
      | true ↦ refl
      | false ↦ lookup-push q es e
    ]

-- an entry counts where no later one does
one_more : (later : Option Node) (b : Bool) (node : Node) (before : Option Node) → option_or later (cond b (Some node) before) ≡ option_or
    (option_or later (cond b (Some node) None)) before
one_more (Some x) b node before = refl
one_more None true node before = refl
one_more None false node before = refl

-- the last entry counts
last_counts : (es : List (Names × Node)) (before : Names → Option Node) (q : Names) → update_all (eq_by_cmp path_cmp) before es q ≡ option_or
    (lookup (eq_by_cmp path_cmp q) (reverse es)) (before q)
last_counts [] before q = refl
last_counts (e ∷ es) before q =
    last_counts es (update (eq_by_cmp path_cmp) before e.0 (Some e.1)) q
    ∙ ap (λ b. option_or (lookup (eq_by_cmp path_cmp q) (reverse es)) (cond b (Some e.1) (before q))) (paths_equal.symm e.0 q)
    ∙ one_more (lookup (eq_by_cmp path_cmp q) (reverse es)) (eq_by_cmp path_cmp q e.0) e.1 (before q)
    ∙ ap (λ t. option_or t (before q)) (sym (lookup-push q (reverse es) e))
    ∙ ap (λ (l : List (Names × Node)). option_or (lookup (eq_by_cmp path_cmp q) l) (before q)) (sym (reverse-append (e ∷ []) es))

-- nothing is after it
or_none : (t : Option Node) → option_or t None ≡ t
or_none None = refl
or_none (Some x) = refl

-- the map of the nodes is the tree in which the last entry of a path counts
pub tree_given : (nodes : List (Names × Node)) (made : BTreeMap Names Node) → IsFromIterResult path_cmp nodes made → tree_in made ≡ tree_of_last nodes
tree_given nodes made is = same_tree (tree_in made) (tree_of_last nodes) (λ q.
    get-seen node_of made q
    ∙ ap (option_map node_of) (is.0 q ∙ last_counts nodes (λ _. None) q ∙ or_none (lookup (eq_by_cmp path_cmp q) (reverse nodes)))
    ∙ sym (get-from_entries path_total (nodes_of (reverse nodes)) q ∙ found node_of q (reverse nodes)))
