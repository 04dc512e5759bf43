-- What keeps the rules of the pending maps.
use Rattle.std.proofs.Common.{◌≡◌, ℕ, List, Option, None, Bool, true, false, cond, sym, ap, subst, unwrap_or}
use Rattle.std.specs.Prelude.{OnOk, OnErr}
use Rattle.std.specs.declared.result.Result.{Result}
use Rattle.std.specs.declared.result.Result.TheVariants.{Ok, Err}
use Rattle.std.specs.Ordering.{eq_by_cmp}
use Rattle.std.specs.FinMap.{FinMap, empty, get, insert, remove, get-empty}
use Rattle.key_names.specs.Order.{bytes_cmp, key_cmp, bytes_total, key_total}
use Rattle.json_trees.specs.declared.pending.Pending.{Pending}
use Rattle.settings_tree.specs.Pending.{IsPending}
use Rattle.settings_tree.specs.Rule.{IsPrefixFree, Fits}
use Rattle.settings_maps.specs.Maps.{inner, with_value, without_value}
use Rattle.settings_maps.proofs.NestedMaps.{full_empty, full_with, full_without, inner-with, inner-with_inner}
use Rattle.settings_tree.proofs.PrefixRule.{empty_free, fits_empty, put_free, take_free}

-- No transactions keep the rules.
pub none_pending : IsPending empty
none_pending = record {
  full = full_empty bytes_total;
  rule = λ tx. empty_free _ (ap (λ (o : Option (FinMap key_cmp Pending)). unwrap_or o empty) (get-empty bytes_cmp tx));
}

-- So do maps that are seen as none.
pub seen_pending : (m : FinMap bytes_cmp (FinMap key_cmp Pending)) → m ≡ empty → IsPending m
seen_pending m none = rw none none_pending

-- A key that fits its transaction may be put there.
pub with_keeps : (m : FinMap bytes_cmp (FinMap key_cmp Pending)) (tx : List ℕ) (k : List (List ℕ)) (x : Pending) → IsPending m → Fits (inner m tx) k
    → IsPending (with_value m tx k x)
with_keeps m tx k x pending fits = record {
  full = full_with bytes_total key_total m tx k x pending.full;
  rule = λ u. subst IsPrefixFree (sym (inner-with bytes_total m tx u k x)) (by u (eq_by_cmp bytes_cmp u tx));
} where
  by : (u : List ℕ) (b : Bool) → IsPrefixFree (cond b (insert (inner m tx) k x) (inner m u))
  by u true = put_free (inner m tx) k x (pending.rule tx) fits
  by u false = pending.rule u

-- What is taken leaves the rules.
pub without_keeps : (m : FinMap bytes_cmp (FinMap key_cmp Pending)) (tx : List ℕ) (k : List (List ℕ)) → IsPending m → IsPending (without_value m tx k)
without_keeps m tx k pending = record {
  full = full_without bytes_total m tx k pending.full;
  rule = λ u. subst IsPrefixFree (sym (inner-with_inner bytes_total m tx u (remove (inner m tx) k))) (by u (eq_by_cmp bytes_cmp u tx));
} where
  by : (u : List ℕ) (b : Bool) → IsPrefixFree (cond b (remove (inner m tx) k) (inner m u))
  by u true = take_free (inner m tx) k (pending.rule tx)
  by u false = pending.rule u

-- The transactions that are seen as v.
module _ (m v : FinMap bytes_cmp (FinMap key_cmp Pending)) (seen : m ≡ v) (pending : IsPending m) where
  -- A put keeps the rules, whether it finds memory or not.
  pub put_pending : {T E : Type 0} (r : Result T E) (tx : List ℕ) (k : List (List ℕ)) (x : Pending) (now : FinMap bytes_cmp (FinMap key_cmp Pending))
      → Fits (inner v tx) k
      → OnOk r (now ≡ with_value m tx k x) → OnErr r (now ≡ m) → IsPending now
  put_pending (Err e) tx k x now fits put kept = subst IsPending (sym kept) pending
  put_pending (Ok u) tx k x now fits put kept = subst IsPending (sym put)
      (with_keeps m tx k x pending (subst (λ (w : FinMap bytes_cmp (FinMap key_cmp Pending)). Fits (inner w tx) k) (sym seen) fits))

  -- A removal keeps the rules.
  pub take_pending : (tx : List ℕ) (k : List (List ℕ)) (now : FinMap bytes_cmp (FinMap key_cmp Pending)) → now ≡ without_value m tx k → IsPending now
  take_pending tx k now taken = subst IsPending (sym taken) (without_keeps m tx k pending)

-- Each key fits a transaction that is missing.
pub fits_missing : (m : FinMap bytes_cmp (FinMap key_cmp Pending)) (tx : List ℕ) (k : List (List ℕ)) → None ≡ get m tx → Fits (inner m tx) k
fits_missing m tx k none = fits_empty (inner m tx) k (ap (λ (o : Option (FinMap key_cmp Pending)). unwrap_or o empty) (sym none))

pub ruleset pending_maps = (none_pending, seen_pending, put_pending, take_pending, fits_missing)
