-- What a crash may leave, from one change to the next.
use Rattle.std.proofs.Common.{◌≡◌, inl, inr, ◌⊎◌, false, Option, refl, sym, ◌∙◌, ap, subst}
use Rattle.std.proofs.lemmas.Bool.{false≢true}
use Rattle.std.specs.Ordering.{eq_by_cmp}
use Rattle.outside.specs.Names.{Names, path_cmp}
use Rattle.outside.specs.Tree.{Node, node_at, set_node}
use Rattle.outside.specs.History.{replaced, scribbled, synced, History, begun, next, tree_of, MayLeave, IsCrashState, EachCrashState, IsSettled}
use Rattle.outside.proofs.Trees.{path_cases, path_itself, node_at-set_same, node_at-set_other, same_tree}

pub may_leave_now : (h : History) (p : Names) → MayLeave h p (node_at (tree_of h) p)
may_leave_now (begun tree) p = refl
may_leave_now (next (replaced at now) h) p = elim (path_cases p at) [
  | inl here ↦ inr (here, ap (λ q. node_at (set_node (tree_of h) at now) q) here ∙ node_at-set_same (tree_of h) at now)
  | inr other ↦ inl (subst (MayLeave h p) (sym (node_at-set_other (tree_of h) at now p other)) (may_leave_now h p))
]
may_leave_now (next (scribbled at now) h) p = elim (path_cases p at) [
  | inl here ↦ inr (here, inr (ap (λ q. node_at (set_node (tree_of h) at now) q) here ∙ node_at-set_same (tree_of h) at now))
  | inr other ↦ inl (subst (MayLeave h p) (sym (node_at-set_other (tree_of h) at now p other)) (may_leave_now h p))
]
may_leave_now (next synced h) p = refl

-- the disk as it reads is one of its crash states
pub tree_is_crash_state : (h : History) → IsCrashState h (tree_of h)
tree_is_crash_state h p = may_leave_now h p

pub settled_state : (h : History) → IsSettled h → EachCrashState (λ crashed. crashed ≡ tree_of h) h
settled_state h settled crashed is = same_tree crashed (tree_of h) (λ q. settled q (node_at crashed q) (is q))

pub settled_synced : (h : History) → IsSettled (next synced h)
settled_synced h path found is = is

-- one path is changed over a tree that is on the disk: the tree with the change, or without
pub EachCrashState-replaced : (h : History) (at : Names) (now : Option Node) → IsSettled h
    → EachCrashState (λ crashed. (crashed ≡ tree_of h) ⊎ (crashed ≡ set_node (tree_of h) at now)) (next (replaced at now) h)
EachCrashState-replaced h at now settled crashed is = elim (is at) [
  | inl was ↦ inl (same_tree crashed (tree_of h) (λ q. old q (settled at (node_at crashed at) was) (is q)))
  | inr here ↦ inr (same_tree crashed (set_node (tree_of h) at now) (λ q. new q here.1 (is q) (path_cases q at)))
]
  where
    old : (q : Names) → node_at crashed at ≡ node_at (tree_of h) at → MayLeave (next (replaced at now) h) q (node_at crashed q)
        → node_at crashed q ≡ node_at (tree_of h) q
    old q at_old (inl was) = settled q (node_at crashed q) was
    old q at_old (inr (same, is_now)) = ap (λ p. node_at crashed p) same ∙ at_old ∙ ap (λ p. node_at (tree_of h) p) (sym same)

    new : (q : Names) → node_at crashed at ≡ now → MayLeave (next (replaced at now) h) q (node_at crashed q) → (q ≡ at) ⊎ (eq_by_cmp path_cmp q at ≡ false)
        → node_at crashed q ≡ node_at (set_node (tree_of h) at now) q
    new q at_now may (inl same) = ap (λ p. node_at crashed p) same ∙ at_now ∙ sym (node_at-set_same (tree_of h) at now)
        ∙ ap (λ p. node_at (set_node (tree_of h) at now) p) (sym same)
    new q at_now (inl was) (inr other) = settled q (node_at crashed q) was ∙ sym (node_at-set_other (tree_of h) at now q other)
    new q at_now (inr (same, is_now)) (inr other) = absurd (false≢true (sym other ∙ ap (λ p. eq_by_cmp path_cmp q p) (sym same) ∙ path_itself q))
