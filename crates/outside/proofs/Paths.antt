-- Paths apart from each other: what several changes leave of each.
use Rattle.std.proofs.Common.{◌≡◌, inl, inr, ◌⊎◌, List, [], ◌∷◌, Option, false, sym, ◌∙◌, ap}
use Rattle.std.proofs.lemmas.Bool.{false≢true}
use Rattle.std.specs.Ordering.{eq_by_cmp}
use Rattle.outside.specs.Names.{Names, path_cmp}
use Rattle.outside.specs.Tree.{Node, node_at}
use Rattle.outside.specs.History.{replaced, scribbled, History, next, tree_of, IsSettledAt}
use Rattle.outside.proofs.Trees.{path_itself, node_at-set_other}

-- a change at another path
pub settled_scribbled : (h : History) (at : Names) (now : Option Node) (p : Names) → eq_by_cmp path_cmp p at ≡ false → IsSettledAt h p
    → IsSettledAt (next (scribbled at now) h) p
settled_scribbled h at now p other settled found (inl was) = settled found was ∙ sym (node_at-set_other (tree_of h) at now p other)
settled_scribbled h at now p other settled found (inr (here, is)) = absurd
    (false≢true (sym other ∙ ap (λ q. eq_by_cmp path_cmp p q) (sym here) ∙ path_itself p))

-- these nodes are put at these paths, the first of them first, with no sync between
abbrev pub puts : List (Names × Option Node) → History → History
puts [] h = h
puts (e ∷ es) h = puts es (next (replaced e.0 e.1) h)

-- one of them is this
abbrev pub IsAmong : List (Names × Option Node) → Names → Option Node → Type 0
IsAmong [] p found = ⊥
IsAmong (e ∷ es) p found = ((p ≡ e.0) × (found ≡ e.1)) ⊎ IsAmong es p found
