-- The pending maps after a step, transaction by transaction.
use Rattle.std.proofs.Common.{◌≡◌, ℕ, List, [], ◌∷◌, Option, Some, None, Ok, Err, Bool, true, false, cond, fold, unwrap_or, refl, sym, ◌∙◌, ap, subst}
use Rattle.std.specs.Option.{option_or}
use Rattle.std.specs.Ordering.{eq_by_cmp}
use Rattle.std.specs.FinMap.{FinMap, empty, entries, get, get-insert, get-remove, insert, remove}
use Rattle.key_names.specs.Order.{bytes_cmp, bytes_total, key_cmp}
use Rattle.json_trees.specs.declared.pending.Pending.{Pending}
use Rattle.settings_maps.specs.Maps.{IsFull, inner, is_empty, with_inner}
use Rattle.settings_maps.proofs.NestedMaps.{inner-with_inner}
use Rattle.settings_tree.specs.Pending.{IsPending}
use Rattle.settings_tree.specs.Rule.{IsPrefixFree}
use Rattle.settings_tree.proofs.PendingMaps.{none_pending}
use Rattle.migrate_helpers.specs.declared.map_error.MapError.{MapError}
use Rattle.migrate_helpers.specs.Conflict.{conflict}
use Rattle.migrate_helpers.specs.Mapped.{first_conflict, pending_edited, transactions_edited, unless_conflict}
use Rattle.migrate_helpers.specs.Step.{Step}
use Rattle.migrate_helpers.specs.Laws.Conflicts.{free_of_conflict}
use Rattle.migrate_helpers.specs.Laws.Refusals.{allowed, free_allowed, refused_first}

-- The maps of transactions.
abbrev pub Pendings : Type 0
Pendings = FinMap bytes_cmp (FinMap key_cmp Pending)

full_with_inner : (m : Pendings) (tx : List ℕ) (i : FinMap key_cmp Pending) → IsFull m → IsFull (with_inner m tx i)
full_with_inner m tx i full = by (is_empty i) refl where
  same_Some : (j k : FinMap key_cmp Pending) → Some j ≡ Some k → j ≡ k
  same_Some j k is = ap (λ (o : Option (FinMap key_cmp Pending)). unwrap_or o j) is

  taken : (u : List ℕ) (j : FinMap key_cmp Pending) (b : Bool) → cond b None (get m u) ≡ Some j → is_empty j ≡ false
  taken u j true is = absurd (cc is)
  taken u j false is = full.each u j is

  put : is_empty i ≡ false → (u : List ℕ) (j : FinMap key_cmp Pending) (b : Bool) → cond b (Some i) (get m u) ≡ Some j → is_empty j ≡ false
  put some u j true is = ap is_empty (sym (same_Some i j is)) ∙ some
  put some u j false is = full.each u j is

  by : (b : Bool) → is_empty i ≡ b → IsFull (cond b (remove m tx) (insert m tx i))
  by true none = record { each = λ u j has. taken u j (eq_by_cmp bytes_cmp u tx) (sym (get-remove bytes_total m tx u) ∙ has) }
  by false some = record { each = λ u j has. put some u j (eq_by_cmp bytes_cmp u tx) (sym (get-insert bytes_total m tx i u) ∙ has) }

-- A transaction that is given a map that keeps the prefix rule keeps the rules.
pub set_keeps : (m : Pendings) (tx : List ℕ) (i : FinMap key_cmp Pending) → IsPending m → IsPrefixFree i → IsPending (with_inner m tx i)
set_keeps m tx i pending free = record {
  full = full_with_inner m tx i pending.full;
  rule = λ u. subst IsPrefixFree (sym (inner-with_inner bytes_total m tx u i)) (by u (eq_by_cmp bytes_cmp u tx));
} where
  by : (u : List ℕ) (b : Bool) → IsPrefixFree (cond b i (inner m u))
  by u true = free
  by u false = pending.rule u

-- With the maps of a list edited and set.
abbrev pub with_edited : Step → Pendings → List (List ℕ × FinMap key_cmp Pending) → Pendings
with_edited step m es = fold (λ m e. with_inner m e.0 (pending_edited step e.1)) m es

-- Where the first of two conflicts is none, so is each.
pub first_none : (a b : Option (List (List ℕ))) → option_or a b ≡ None → (a ≡ None) × (b ≡ None)
first_none None b is = (refl, is)
first_none (Some k) b is = absurd (cc is)

-- Without a conflict the edited maps keep the rules.
pub edited_pending_rules : (step : Step) (es : List (List ℕ × FinMap key_cmp Pending)) (m : Pendings) → IsPending m → first_conflict step es ≡ None
    → IsPending (with_edited step m es)
edited_pending_rules step [] m pending none = pending
edited_pending_rules step (e ∷ es) m pending none =
    let parts = first_none (conflict (pending_edited step e.1)) (first_conflict step es) none in
    edited_pending_rules step es (with_inner m e.0 (pending_edited step e.1))
    (set_keeps m e.0 (pending_edited step e.1) pending (free_of_conflict (pending_edited step e.1) parts.0)) parts.1

pub transactions_rules : (step : Step) (p : Pendings) → first_conflict step (entries p) ≡ None → IsPending (transactions_edited step p)
transactions_rules step p none = edited_pending_rules step (entries p) empty none_pending none

-- How far the transactions of p are edited: m holds those edited so far, none of which had a conflict, and the others are left.
pub record Edited (step : Step) (p m : Pendings) (left : List (List ℕ × FinMap key_cmp Pending)) : Type 0 where
  pub maps : with_edited step m left ≡ transactions_edited step p
  pub conflicts : first_conflict step left ≡ first_conflict step (entries p)
  pub pending : IsPending m

module _ (step : Step) (p : Pendings) where
  pub edited_start : (m : Pendings) (left : List (List ℕ × FinMap key_cmp Pending)) → m ≡ empty → left ≡ entries p → Edited step p m left
  edited_start m left none all = record {
    maps = ap (λ (w : Pendings). with_edited step w left) none ∙ ap (with_edited step empty) all;
    conflicts = ap (first_conflict step) all;
    pending = subst IsPending (sym none) none_pending;
  }

  module _ (m : Pendings) (left rest : List (List ℕ × FinMap key_cmp Pending)) (tx : List ℕ) (keys : FinMap key_cmp Pending) (next : left ≡ (tx, keys) ∷ rest)
      (so_far : Edited step p m left) where
    conflicts_at : option_or (conflict (pending_edited step keys)) (first_conflict step rest) ≡ first_conflict step (entries p)
    conflicts_at = sym (ap (first_conflict step) next) ∙ so_far.conflicts

    -- The next transaction is edited and set.
    pub edited_next : (made : FinMap key_cmp Pending) (now : Pendings) → unless_conflict (conflict (pending_edited step keys)) (pending_edited step keys) ≡ Ok
        made
        → now ≡ with_inner m tx made → Edited step p now rest
    edited_next made now fine set =
        let parts = allowed (conflict (pending_edited step keys)) (pending_edited step keys) made fine in
        record {
          maps = ap (λ (w : Pendings). with_edited step w rest) (set ∙ ap (with_inner m tx) (sym parts.1)) ∙ sym (ap (with_edited step m) next) ∙ so_far.maps;
          conflicts = sym (ap (λ c. option_or c (first_conflict step rest)) parts.0) ∙ conflicts_at;
          pending = subst IsPending (sym set) (set_keeps m tx made so_far.pending (free_allowed (pending_edited step keys) made fine));
        }

    -- The next transaction has a conflict.
    pub edited_refused : (e : MapError) → unless_conflict (conflict (pending_edited step keys)) (pending_edited step keys) ≡ Err e
        → unless_conflict (first_conflict step (entries p)) (transactions_edited step p) ≡ Err e
    edited_refused e is = ap (λ c. unless_conflict c (transactions_edited step p)) (sym conflicts_at)
        ∙ refused_first (conflict (pending_edited step keys)) _ (pending_edited step keys) (transactions_edited step p) e is

  -- All transactions are edited.
  pub edited_end : (m made : Pendings) (left : List (List ℕ × FinMap key_cmp Pending)) → left ≡ [] → Edited step p m left → made ≡ m
      → unless_conflict (first_conflict step (entries p)) (transactions_edited step p) ≡ Ok made
  edited_end m made left none so_far is =
      let fine : first_conflict step (entries p) ≡ None = sym so_far.conflicts ∙ ap (first_conflict step) none in
      let same : m ≡ transactions_edited step p = sym (ap (with_edited step m) none) ∙ so_far.maps in
      ap (λ c. unless_conflict c (transactions_edited step p)) fine ∙ ap Ok (sym same ∙ sym is)
