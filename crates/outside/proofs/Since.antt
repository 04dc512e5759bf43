-- What each tree has that a crash may leave at any moment between two histories.
use Rattle.std.proofs.Common.{inl, inr, Result, Ok, Err, refl, sym, subst}
use Rattle.outside.specs.Tree.{Tree}
use Rattle.outside.specs.History.{Change, synced, History, begun, next, tree_of, EachCrashState}
use Rattle.outside.specs.Since.{EachSince}
use Rattle.outside.specs.DiskCalls.{Syncs}
use Rattle.outside.proofs.Crash.{tree_is_crash_state, settled_state, settled_synced}

module _ (P : Tree → Type 0) where
  pub since_start : (h : History) → EachCrashState P h → EachSince P h h
  since_start (begun tree) here = (refl, here)
  since_start (next change h) here = (inl refl, here)

  pub since_next : (old h : History) (change : Change) → EachSince P old h → EachCrashState P (next change h) → EachSince P old (next change h)
  since_next old h change so_far here = (inr so_far, here)

  pub since_now : (old new : History) → EachSince P old new → EachCrashState P new
  since_now old (begun tree) since = since.1
  since_now old (next change h) since = since.1

  pub since_joined : (a b c : History) → EachSince P a b → EachSince P b c → EachSince P a c
  since_joined a b (begun tree) first (is, here) = subst (λ h. EachSince P a h) (sym is) first
  since_joined a b (next change h) first (inl is, here) = subst (λ k. EachSince P a k) (sym is) first
  since_joined a b (next change h) first (inr more, here) = (inr (since_joined a b h first more), here)

pub since_map : (P Q : Tree → Type 0) (old new : History) → ((crashed : Tree) → P crashed → Q crashed) → EachSince P old new → EachSince Q old new
since_map P Q old (begun tree) f (is, here) = (is, λ crashed i. f crashed (here crashed i))
since_map P Q old (next change h) f (inl is, here) = (inl is, λ crashed i. f crashed (here crashed i))
since_map P Q old (next change h) f (inr more, here) = (inr (since_map P Q old h f more), λ crashed i. f crashed (here crashed i))

-- two facts of each crash state
pub since_both : (P Q : Tree → Type 0) (old new : History) → EachSince P old new → EachSince Q old new → EachSince (λ crashed. P crashed × Q crashed) old new
since_both P Q old (begun tree) (is, one) (same, two) = (is, λ crashed im. (one crashed im, two crashed im))
since_both P Q old (next change h) (inl is, one) (any, two) = (inl is, λ crashed im. (one crashed im, two crashed im))
since_both P Q old (next change h) (inr more, one) (inl is, two) = (inl is, λ crashed im. (one crashed im, two crashed im))
since_both P Q old (next change h) (inr more, one) (inr less, two) = (inr (since_both P Q old h more less), λ crashed im. (one crashed im, two crashed im))

-- ---- the calls: from one moment to the next

-- a sync leaves what was possible before
pub since_syncs : (P : Tree → Type 0) (old mid new : History) {E : Type 0} (result : Result Unit E) → EachSince P old mid → Syncs result mid new
    → EachSince P old new
since_syncs P old mid new (Ok done) so_far is =
    subst (λ h. EachSince P old h) (sym is) (since_next P old mid synced so_far
    (λ crashed im. subst P (sym (settled_state (next synced mid) (settled_synced mid) crashed im))
    (since_now P old mid so_far (tree_of mid) (tree_is_crash_state mid))))
since_syncs P old mid new (Err e) so_far is = subst (λ h. EachSince P old h) (sym is) so_far
