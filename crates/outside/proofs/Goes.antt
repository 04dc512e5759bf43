-- Several changes in a row, and what they do not touch.
use Rattle.std.proofs.Common.{◌≡◌, inl, inr, ◌⊎◌, false, Option, refl, sym, ◌∙◌, ap, subst}
use Rattle.std.specs.Ordering.{eq_by_cmp}
use Rattle.outside.specs.Names.{Names, path_cmp}
use Rattle.outside.specs.Tree.{Node, Tree, node_at}
use Rattle.outside.specs.History.{Change, replaced, scribbled, synced, History, begun, next, tree_of, MayLeave, EachCrashState}
use Rattle.outside.specs.Since.{EachSince, GoesOn, IsAt, IsAtOrSync, Touches}
use Rattle.outside.proofs.Trees.{path_cases, node_at-set_other}
use Rattle.outside.proofs.Crash.{may_leave_now}

pub goes_stay : (C : Change → Type 0) (h : History) → GoesOn C h h
goes_stay C (begun tree) = refl
goes_stay C (next change h) = inl refl

pub goes_next : (C : Change → Type 0) (old h : History) (change : Change) → GoesOn C old h → C change → GoesOn C old (next change h)
goes_next C old h change so_far here = inr (here, so_far)

pub goes_joined : (C : Change → Type 0) (a b c : History) → GoesOn C a b → GoesOn C b c → GoesOn C a c
goes_joined C a b (begun tree) first is = subst (λ h. GoesOn C a h) (sym is) first
goes_joined C a b (next change h) first (inl is) = subst (λ k. GoesOn C a k) (sym is) first
goes_joined C a b (next change h) first (inr (here, more)) = inr (here, goes_joined C a b h first more)

pub goes_map : (C D : Change → Type 0) (old new : History) → ((change : Change) → C change → D change) → GoesOn C old new → GoesOn D old new
goes_map C D old (begun tree) f is = is
goes_map C D old (next change h) f (inl is) = inl is
goes_map C D old (next change h) f (inr (here, more)) = inr (f change here, goes_map C D old h f more)

-- what each history on the way has
pub since_goes : (P : Tree → Type 0) (C : Change → Type 0) (old new : History) → ((h : History) → GoesOn C old h → EachCrashState P h) → GoesOn C old new
    → EachSince P old new
since_goes P C old (begun tree) each is = (is, each (begun tree) is)
since_goes P C old (next change h) each (inl is) = (inl is, each (next change h) (inl is))
since_goes P C old (next change h) each (inr (here, more)) = (inr (since_goes P C old h each more), each (next change h) (inr (here, more)))

-- what a crash may leave, without a sync: what it might have left before, or something at one of the paths
pub may_leave_at : (Q : Names → Type 0) (old new : History) → GoesOn (IsAt Q) old new → (p : Names) (node : Option Node) → MayLeave new p node
    → MayLeave old p node ⊎ Q p
may_leave_at Q old (begun tree) is p n may = inl (subst (λ h. MayLeave h p n) is may)
may_leave_at Q old (next change h) (inl is) p n may = inl (subst (λ k. MayLeave k p n) is may)
may_leave_at Q old (next (replaced at now) h) (inr (here, more)) p n (inl was) = may_leave_at Q old h more p n was
may_leave_at Q old (next (replaced at now) h) (inr (here, more)) p n (inr (same, is)) = inr (subst Q (sym same) here)
may_leave_at Q old (next (scribbled at now) h) (inr (here, more)) p n (inl was) = may_leave_at Q old h more p n was
may_leave_at Q old (next (scribbled at now) h) (inr (here, more)) p n (inr (same, is)) = inr (subst Q (sym same) here)
may_leave_at Q old (next synced h) (inr (here, more)) p n may = absurd here

other_path : (Q : Names → Type 0) (p at : Names) → (Q p → ⊥) → Q at → eq_by_cmp path_cmp p at ≡ false
other_path Q p at not here = elim (path_cases p at) [
  | inl same ↦ absurd (not (subst Q (sym same) here))
  | inr other ↦ other
]

-- a path that is not touched reads as before
pub tree_untouched : (Q : Names → Type 0) (old new : History) → Touches Q old new → (p : Names) → (Q p → ⊥) → node_at (tree_of new) p ≡ node_at (tree_of old) p
tree_untouched Q old (begun tree) is p not = ap (λ h. node_at (tree_of h) p) is
tree_untouched Q old (next change h) (inl is) p not = ap (λ k. node_at (tree_of k) p) is
tree_untouched Q old (next (replaced at now) h) (inr (here, more)) p not = node_at-set_other (tree_of h) at now p (other_path Q p at not here)
    ∙ tree_untouched Q old h more p not
tree_untouched Q old (next (scribbled at now) h) (inr (here, more)) p not = node_at-set_other (tree_of h) at now p (other_path Q p at not here)
    ∙ tree_untouched Q old h more p not
tree_untouched Q old (next synced h) (inr (here, more)) p not = tree_untouched Q old h more p not

-- and a crash leaves there what it might have left before
pub may_leave_untouched : (Q : Names → Type 0) (old new : History) → Touches Q old new → (p : Names) → (Q p → ⊥) → (node : Option Node) → MayLeave new p node
    → MayLeave old p node
may_leave_untouched Q old (begun tree) is p not n may = subst (λ h. MayLeave h p n) is may
may_leave_untouched Q old (next change h) (inl is) p not n may = subst (λ k. MayLeave k p n) is may
may_leave_untouched Q old (next (replaced at now) h) (inr (here, more)) p not n (inl was) = may_leave_untouched Q old h more p not n was
may_leave_untouched Q old (next (replaced at now) h) (inr (here, more)) p not n (inr (same, is)) = absurd (not (subst Q (sym same) here))
may_leave_untouched Q old (next (scribbled at now) h) (inr (here, more)) p not n (inl was) = may_leave_untouched Q old h more p not n was
may_leave_untouched Q old (next (scribbled at now) h) (inr (here, more)) p not n (inr (same, is)) = absurd (not (subst Q (sym same) here))
may_leave_untouched Q old (next synced h) (inr (here, more)) p not n may =
    may_leave_untouched Q old h more p not n (subst (λ m. MayLeave h p m) (sym may) (may_leave_now h p))

-- at a path that is not touched a crash in between leaves what it might have left before
pub since_untouched_at : (Q : Names → Type 0) (p : Names) → (Q p → ⊥) → (old new : History) → Touches Q old new
    → EachSince (λ crashed. MayLeave old p (node_at crashed p)) old new
since_untouched_at Q p apart old new touches =
    since_goes (λ crashed. MayLeave old p (node_at crashed p)) (IsAtOrSync Q) old new
    (λ h goes crashed is. may_leave_untouched Q old h goes p apart (node_at crashed p) (is p)) touches
