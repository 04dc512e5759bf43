-- Rising lists of keys, and the search in them.
use Rattle.std.proofs.Common.{arith, ◌≡◌, ◌<◌, ◌≤◌, ◌⊎◌, inl, inr, ◌+◌, ℕ, zero, suc, List, []}
use Rattle.std.proofs.Common.{◌∷◌, length, slice_index_or, filter, not, cond, true, false, refl, sym, ◌∙◌, ap, subst}
use Rattle.std.specs.Prelude.{remove}
use Rattle.std.specs.declared.cmp.Ordering.{Ordering}
use Rattle.std.specs.declared.cmp.Ordering.TheVariants.{Less, Equal, Greater}
use Rattle.std.specs.Ordering.{eq_by_cmp, is_eq, is_lt, ordering_index, ordering_reverse}
use Rattle.std.specs.Cmp.{IsTotalOrder}
use Rattle.std.specs.List.{AllByRecursion}
use Rattle.std.specs.List.Sorted.{IsStrictlySortedBy, IsNonDecreasingBy, IsPartitionPoint}
use Rattle.std.proofs.lemmas.Bool.{cases_lt}
use Rattle.std.proofs.lemmas.List.Kept.{IsStrictlySortedBy-filter}
use Rattle.std.proofs.lemmas.List.Sorted.{searchable_from_sorted}
use Rattle.std.proofs.lemmas.Map.Keys.{Less-from_sorted, sorted_head, sorted_tail}
use Rattle.key_names.specs.Order.{key_cmp, key_total}
use Rattle.settings_maps.specs.KeyList.{IsRising, without_key}

-- The empty list rises.
pub none_rises : (keys : List (List (List ℕ))) → keys ≡ [] → IsRising keys
unfolding IsStrictlySortedBy
none_rises keys none = rw none tt

-- A rising list without a key rises.
pub without_rises : (keys others : List (List (List ℕ))) (key : List (List ℕ)) → IsRising keys → others ≡ without_key keys key → IsRising others
without_rises keys others key rises is = subst IsRising (sym is) (IsStrictlySortedBy-filter key_cmp (λ q. not (eq_by_cmp key_cmp key q)) keys rises)

pub not_less : (a b : Ordering) → b ≡ ordering_reverse a → a ≡ Less → is_lt b ≡ false
not_less a b e l = ap is_lt (e ∙ ap ordering_reverse l)

module _ {K : Type 0} {R : K → K → Ordering} (o : IsTotalOrder R) where
  -- A search may go by the order of a rising list.
  pub searchable : (ks : List K) (k : K) → IsStrictlySortedBy R ks → IsNonDecreasingBy (λ y. ordering_index (R y k)) ks
  searchable ks k rises = searchable_from_sorted o (λ x. x) ks k (λ i d low high. not_less (R (slice_index_or ks i d) (slice_index_or ks (i + 1) d)) _
      (o.antisymm _ _) (Less-from_sorted R ks i (i + 1) d rises (omega arith) high))

  differ : (k q : K) (r : Ordering) → R k q ≡ r → is_eq r ≡ false → not (eq_by_cmp R k q) ≡ true
  differ k q r is apart = ap (λ x. not (is_eq x)) is ∙ ap not apart

  -- The keys above one that ties with k differ from k.
  all_differ : (k x : K) (ks : List K) → R k x ≡ Equal → AllByRecursion (λ y. R x y ≡ Less) ks → filter (λ q. not (eq_by_cmp R k q)) ks ≡ ks
  all_differ k x [] tie above = refl
  all_differ k x (y ∷ ks) tie above = ap (λ b. cond b (y ∷ filter (λ q. not (eq_by_cmp R k q)) ks) (filter (λ q. not (eq_by_cmp R k q)) ks))
      (differ k y Less (o.congr k x y tie ∙ above.0) refl)
      ∙ ap (λ (t : List K). y ∷ t) (all_differ k x ks tie above.1)

  -- The other way round the order is reversed.
  pub turned : (k q : K) (r : Ordering) → R q k ≡ r → R k q ≡ ordering_reverse r
  turned k q r is = o.antisymm k q ∙ ap ordering_reverse is

  -- To remove the element that ties with k is to leave k out.
  pub removed : (ks : List K) (i : ℕ) (k : K) → IsStrictlySortedBy R ks → i < length ks → ((d : K) → R (slice_index_or ks i d) k ≡ Equal)
      → remove ks i ≡ filter (λ q. not (eq_by_cmp R k q)) ks
  removed [] i k rises low tie = absurd (omega arith)
  removed (x ∷ ks) zero k rises low tie =
      let same : R k x ≡ Equal = turned k x Equal (tie x) in
      sym (ap (λ b. cond b (x ∷ filter (λ q. not (eq_by_cmp R k q)) ks) (filter (λ q. not (eq_by_cmp R k q)) ks)) (ap (λ r. not (is_eq r)) same)
      ∙ all_differ k x ks same (sorted_head R x ks rises))
  removed (x ∷ ks) (suc i) k rises low tie =
      let low' : i < length ks = omega arith in
      let below : R x (slice_index_or ks i x) ≡ Less = Less-from_sorted R (x ∷ ks) 0 (suc i) x rises (omega arith) low in
      let less : R k x ≡ ordering_reverse Less = turned k x Less (x_below (R x (slice_index_or ks i x)) below (tie x)) in
      sym (ap (λ b. cond b (x ∷ filter (λ q. not (eq_by_cmp R k q)) ks) (filter (λ q. not (eq_by_cmp R k q)) ks)) (ap (λ r. not (is_eq r)) less)
      ∙ ap (λ (t : List K). x ∷ t) (sym (removed ks i k (sorted_tail R x ks rises) low' tie)))
    where
      x_below : (r : Ordering) → R x (slice_index_or ks i x) ≡ Less → R (slice_index_or ks i x) k ≡ Equal → R x k ≡ Less
      x_below r below same = turned x k Greater (o.congr k (slice_index_or ks i x) x (turned k (slice_index_or ks i x) Equal same)
          ∙ turned (slice_index_or ks i x) x Less below)

  -- Where no element ties with k nothing is left out.
  none_left_out : (ks : List K) (k : K) → ((j : ℕ) → j < length ks → (d : K) → eq_by_cmp R k (slice_index_or ks j d) ≡ false)
      → filter (λ q. not (eq_by_cmp R k q)) ks ≡ ks
  none_left_out [] k none = refl
  none_left_out (x ∷ ks) k none = ap (λ b. cond (not b) (x ∷ filter (λ q. not (eq_by_cmp R k q)) ks) (filter (λ q. not (eq_by_cmp R k q)) ks))
      (none 0 (omega arith) x)
      ∙ ap (λ (t : List K). x ∷ t) (none_left_out ks k (λ j low d. none (suc j) (omega arith) d))

  -- No element ties with k where the list parts at k.
  apart_from_point : (ks : List K) (i : ℕ) (k : K) → IsPartitionPoint (λ y. R y k ≡ Less) (λ y. R y k ≡ Greater) ks i → (j : ℕ) → j < length ks → (d : K)
      → eq_by_cmp R k (slice_index_or ks j d) ≡ false
  apart_from_point ks i k point j low d = side (cases_lt j i) where
    side : (j < i) ⊎ (i ≤ j) → eq_by_cmp R k (slice_index_or ks j d) ≡ false
    side (inl l) = ap is_eq (turned k (slice_index_or ks j d) Less (point.0 j d (omega arith) l))
    side (inr h) = ap is_eq (turned k (slice_index_or ks j d) Greater (point.1 j d h low))

  -- A search that found no element that ties with k.
  pub not_found : (ks : List K) (i : ℕ) (k : K) → IsPartitionPoint (λ y. R y k ≡ Less) (λ y. R y k ≡ Greater) ks i → filter (λ q. not (eq_by_cmp R k q)) ks ≡ ks
  not_found ks i k point = none_left_out ks k (apart_from_point ks i k point)

-- What a search in the list found is removed.
pub found_removed : (keys list others : List (List (List ℕ))) (i : ℕ) (key : List (List ℕ)) → list ≡ keys → IsRising keys → others ≡ remove keys i
    → i < length list → ((d : List (List ℕ)) → key_cmp (slice_index_or list i d) key ≡ Equal) → others ≡ without_key keys key
found_removed keys list others i key is rises left low tie =
    left ∙ removed key_total keys i key rises (subst (λ (l : List (List (List ℕ))). i < length l) is low)
    (λ d. ap (λ (l : List (List (List ℕ))). key_cmp (slice_index_or l i d) key) (sym is) ∙ tie d)

-- Where a search did not find the key, the list is the one without it.
pub not_found_stays : (keys list : List (List (List ℕ))) (i : ℕ) (key : List (List ℕ)) → list ≡ keys → IsRising keys
    → (IsNonDecreasingBy (λ y. ordering_index (key_cmp y key)) list → IsPartitionPoint (λ y. key_cmp y key ≡ Less) (λ y. key_cmp y key ≡ Greater) list i)
    → keys ≡ without_key keys key
not_found_stays keys list i key is rises point =
    sym (not_found key_total keys i key (subst (λ (l : List (List (List ℕ))). IsNonDecreasingBy (λ y. ordering_index (key_cmp y key)) l
    → IsPartitionPoint (λ y. key_cmp y key ≡ Less) (λ y. key_cmp y key ≡ Greater) l i) is point (searchable key_total keys key rises)))

pub ruleset rising_keys = (none_rises, without_rises)
