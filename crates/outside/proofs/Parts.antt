-- A part of the paths is settled, and the others may be in whatever state.
use Rattle.std.proofs.Common.{◌≡◌, inl, inr, ◌⊎◌, Bool, true, false, Option, sym, ◌∙◌, ap}
use Rattle.std.proofs.lemmas.Bool.{false≢true}
use Rattle.std.specs.Ordering.{eq_by_cmp}
use Rattle.outside.specs.Names.{Names, path_cmp}
use Rattle.outside.specs.Tree.{Node, Tree, node_at, set_node, AgreeOn}
use Rattle.outside.specs.History.{replaced, scribbled, synced, History, next, tree_of, MayLeave, EachCrashState, IsSettledOn}
use Rattle.outside.proofs.Trees.{path_cases, path_itself, node_at-set_same, node_at-set_other}
use Rattle.outside.proofs.Paths.{settled_scribbled}

module _ (part : Names → Bool) where
  -- the settled part of each crash state is the tree's
  pub state_on : (h : History) → IsSettledOn part h → EachCrashState (λ crashed. AgreeOn part crashed (tree_of h)) h
  state_on h settled crashed is = record { same = λ p inside. settled.at p inside (node_at crashed p) (is p) }

  apart : (p q : Names) → part p ≡ true → part q ≡ false → eq_by_cmp path_cmp p q ≡ false
  apart p q inside outside = elim (path_cases p q) [
    | inl same ↦ absurd (false≢true (sym outside ∙ ap part (sym same) ∙ inside))
    | inr other ↦ other
  ]

  pub scribbled_elsewhere : (h : History) (at : Names) (now : Option Node) → part at ≡ false → IsSettledOn part h → IsSettledOn part (next (scribbled at now) h)
  scribbled_elsewhere h at now outside settled = record { at = λ p inside. settled_scribbled h at now p (apart p at inside outside) (settled.at p inside) }

  pub same_elsewhere : (tree : Tree) (at : Names) (now : Option Node) → part at ≡ false → AgreeOn part (set_node tree at now) tree
  same_elsewhere tree at now outside = record { same = λ p inside. node_at-set_other tree at now p (apart p at inside outside) }

  -- one path of the part is changed: each crash state has the part as before, or with the change
  pub state_replaced_on : (h : History) (at : Names) (now : Option Node) → part at ≡ true → IsSettledOn part h
      → EachCrashState (λ crashed. AgreeOn part crashed (tree_of h) ⊎ AgreeOn part crashed (set_node (tree_of h) at now)) (next (replaced at now) h)
  state_replaced_on h at now here settled crashed is = elim (is at) [
    | inl was ↦ inl (record { same = λ p inside. old p inside (settled.at at here (node_at crashed at) was) (is p) })
    | inr put ↦ inr (record { same = λ p inside. new p inside put.1 (is p) (path_cases p at) })
  ]
    where
      old : (p : Names) → part p ≡ true → node_at crashed at ≡ node_at (tree_of h) at → MayLeave (next (replaced at now) h) p (node_at crashed p)
          → node_at crashed p ≡ node_at (tree_of h) p
      old p inside at_old (inl was) = settled.at p inside (node_at crashed p) was
      old p inside at_old (inr (same, is_now)) = ap (λ q. node_at crashed q) same ∙ at_old ∙ ap (λ q. node_at (tree_of h) q) (sym same)

      new : (p : Names) → part p ≡ true → node_at crashed at ≡ now → MayLeave (next (replaced at now) h) p (node_at crashed p)
          → (p ≡ at) ⊎ (eq_by_cmp path_cmp p at ≡ false) → node_at crashed p ≡ node_at (set_node (tree_of h) at now) p
      new p inside at_now may (inl same) = ap (λ q. node_at crashed q) same ∙ at_now ∙ sym (node_at-set_same (tree_of h) at now)
          ∙ ap (λ q. node_at (set_node (tree_of h) at now) q) (sym same)
      new p inside at_now (inl was) (inr other) = settled.at p inside (node_at crashed p) was ∙ sym (node_at-set_other (tree_of h) at now p other)
      new p inside at_now (inr (same, is_now)) (inr other) = absurd (false≢true (sym other ∙ ap (λ q. eq_by_cmp path_cmp p q) (sym same) ∙ path_itself p))

  -- a sync settles it
  pub settled_on_synced : (h : History) → IsSettledOn part (next synced h)
  settled_on_synced h = record { at = λ p inside found is. is }
