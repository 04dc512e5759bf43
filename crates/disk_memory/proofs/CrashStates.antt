-- What the picks of a crash name is one of its crash states.
use Rattle.std.proofs.Common.{◌≡◌, inl, inr, ◌⊎◌, ℕ, List, Option, Some, None, Bool, cond, false, true, refl, sym, ◌∙◌, ap, subst}
use Rattle.std.specs.Prelude.{option_map, unwrap_or, slice_get}
use Rattle.std.proofs.lemmas.Bool.{false≢true}
use Rattle.std.specs.Ordering.{eq_by_cmp}
use Rattle.std.specs.FinMap.{FinMap, get, get-entries, get-empty, entries, keys}
use Rattle.std.proofs.lemmas.Map.Entries.{place_from_lookup}
use Rattle.std.proofs.lemmas.Option.{slice_get-map}
use Rattle.outside.specs.Names.{Names, path_cmp}
use Rattle.outside.specs.Tree.{Node, Tree, node_at}
use Rattle.outside.specs.History.{History, begun, next, replaced, scribbled, synced, tree_of, MayLeave, IsCrashState, IsFileOrNone}
use Rattle.outside.proofs.Trees.{path_cases, path_itself}
use Rattle.outside.proofs.Crash.{may_leave_now}
use Rattle.disk_memory.specs.Crash.{synced_tree, touched, is_torn, left_of, IsPicked}
use Rattle.disk_memory.specs.declared.pick.Pick.{Pick}
use Rattle.disk_memory.specs.declared.pick.Pick.TheVariants.{Old, New, Gone, Torn}
use Rattle.disk_memory.proofs.Touches.{get-insert-cases}

-- a crash may leave what a path had at the last sync
may_leave_old : (h : History) (p : Names) → MayLeave h p (node_at (synced_tree h) p)
may_leave_old (begun tree) p = refl
may_leave_old (next (replaced at now) h) p = inl (may_leave_old h p)
may_leave_old (next (scribbled at now) h) p = inl (may_leave_old h p)
may_leave_old (next synced h) p = refl

-- and, where `write` touched the path, any file or none
may_leave_torn : (h : History) (p : Names) (found : Option Node) → IsFileOrNone found → is_torn h p ≡ true → MayLeave h p found
may_leave_torn (begun tree) p found any torn = absurd (false≢true (ap (λ t. unwrap_or t false) (sym (get-empty path_cmp p)) ∙ torn))
may_leave_torn (next (replaced at now) h) p found any torn = inl (may_leave_torn h p found any (before (path_cases p at)))
  where
    before : (p ≡ at) ⊎ (eq_by_cmp path_cmp p at ≡ false) → is_torn h p ≡ true
    before (inl same) = ap (is_torn h) same ∙ ap (λ b. unwrap_or (cond b (Some (is_torn h at)) (get (touched h) p)) false)
        (sym (ap (λ q. eq_by_cmp path_cmp p q) (sym same) ∙ path_itself p))
        ∙ ap (λ t. unwrap_or t false) (sym (get-insert-cases (touched h) at (is_torn h at) p)) ∙ torn
    before (inr other) = ap (λ b. unwrap_or (cond b (Some (is_torn h at)) (get (touched h) p)) false) (sym other)
        ∙ ap (λ t. unwrap_or t false) (sym (get-insert-cases (touched h) at (is_torn h at) p)) ∙ torn
may_leave_torn (next (scribbled at now) h) p found any torn = elim (path_cases p at) [
  | inl same ↦ inr (same, inl any)
  | inr other ↦ inl (may_leave_torn h p found any (ap (λ b. unwrap_or (cond b (Some true) (get (touched h) p)) false) (sym other)
      ∙ ap (λ t. unwrap_or t false) (sym (get-insert-cases (touched h) at true p)) ∙ torn))
]
may_leave_torn (next synced h) p found any torn = absurd (false≢true (ap (λ t. unwrap_or t false) (sym (get-empty path_cmp p)) ∙ torn))

-- so it may leave either, by whether the path is torn
may_leave_if_torn : (h : History) (p : Names) (found : Option Node) (torn : Bool) → IsFileOrNone found → is_torn h p ≡ torn
    → MayLeave h p (cond torn found (node_at (synced_tree h) p))
may_leave_if_torn h p found true any is = may_leave_torn h p found any is
may_leave_if_torn h p found false any is = may_leave_old h p

-- a crash may leave what a pick leaves
may_leave_picked : (pick : Pick) (h : History) (p : Names) → MayLeave h p (left_of pick (node_at (synced_tree h) p) (is_torn h p) (node_at (tree_of h) p))
may_leave_picked Old h p = may_leave_old h p
may_leave_picked New h p = may_leave_now h p
may_leave_picked Gone h p = may_leave_if_torn h p None (is_torn h p) tt refl
may_leave_picked (Torn bytes) h p = may_leave_if_torn h p _ (is_torn h p) tt refl

-- a path that was touched has a place among the unsettled ones
place_of : (m : FinMap path_cmp Bool) (q : Names) (v : Bool) → get m q ≡ Some v → (k : ℕ) × (slice_get (keys m) k ≡ Some q)
place_of m q v is =
    let place = place_from_lookup (eq_by_cmp path_cmp q) (entries m) v (sym (get-entries m q) ∙ is) in
    (place.0, slice_get-map (λ e. e.0) (entries m) place.0 ∙ ap (option_map (λ e. e.0)) place.2 ∙ ap Some (same_key (path_cases q place.1) place.3))
  where
    same_key : {k : Names} → (q ≡ k) ⊎ (eq_by_cmp path_cmp q k ≡ false) → eq_by_cmp path_cmp q k ≡ true → k ≡ q
    same_key (inl same) here = sym same
    same_key (inr other) here = absurd (false≢true (sym other ∙ here))

-- the picks name a crash state
pub picked_state : (h : History) (picks : List Pick) (crashed : Tree) → IsPicked h picks crashed → IsCrashState h crashed
picked_state h picks crashed picked p = found (get (touched h) p) refl
  where
    found : (t : Option Bool) → get (touched h) p ≡ t → MayLeave h p (node_at crashed p)
    found None none = subst (MayLeave h p) (sym (picked.settled p none)) (may_leave_now h p)
    found (Some v) some =
        let place = place_of (touched h) p v some in
        subst (MayLeave h p) (sym (picked.unsettled place.0 p place.1)) (may_leave_picked _ h p)
