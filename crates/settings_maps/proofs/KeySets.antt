-- Lists of keys, as sets.
use Rattle.std.proofs.Common.{arith, ◌≡◌, ◌≢◌, ◌<◌, ◌≤◌, ◌⊎◌, inl, inr, ℕ, List, [], ◌∷◌, ◌||◌}
use Rattle.std.proofs.Common.{◌&&◌, length, slice_index_or, not, cond, Bool, true, false, refl, sym, ◌∙◌, ap, subst}
use Rattle.std.specs.Prelude.{is_ok}
use Rattle.std.specs.declared.result.Result.{Result}
use Rattle.std.specs.declared.result.Result.TheVariants.{Ok, Err}
use Rattle.std.specs.declared.cmp.Ordering.{Ordering}
use Rattle.std.specs.declared.cmp.Ordering.TheVariants.{Less, Equal, Greater}
use Rattle.std.specs.Ordering.{eq_by_cmp, is_eq, ordering_reverse}
use Rattle.std.specs.Cmp.{eq_by_cmp_equiv}
use Rattle.std.specs.List.{list_any, list_all}
use Rattle.std.specs.List.Sorted.{IsBinarySearchResult, IsSearchInRange}
use Rattle.std.proofs.lemmas.Bool.{cases_lt, both_ways, and_parts, or_right}
use Rattle.std.proofs.lemmas.List.Folds.{list_any_at, list_any_none}
use Rattle.std.proofs.lemmas.List.Kept.{IsStrictlySortedBy-filter}
use Rattle.std.proofs.lemmas.Map.Keys.{sorted_head, sorted_tail}
use Rattle.key_names.specs.Order.{key_cmp, key_total, key_cmp-IsAntisymmetric}
use Rattle.settings_maps.proofs.NestedMaps.{tied_by}
use Rattle.settings_maps.proofs.RisingKeys.{searchable}
use Rattle.settings_maps.proofs.Merged.{IsBelow, below_lower, merged_rises, has_key-merged}
use Rattle.settings_maps.specs.KeyList.{IsRising, has_key, joined, without_keys}

turned : (k q : List (List ℕ)) (r : Ordering) → key_cmp q k ≡ r → key_cmp k q ≡ ordering_reverse r
turned k q r is = key_total.antisymm k q ∙ ap ordering_reverse is

-- A search answers whether the list has the key.
pub search_has : (keys : List (List (List ℕ))) (k : List (List ℕ)) (r : Result ℕ ℕ) → IsRising keys → IsSearchInRange r (length keys)
    → IsBinarySearchResult (λ y. key_cmp y k) keys r → is_ok r ≡ has_key keys k
search_has keys k (Ok i) rises low found = sym (list_any_at (eq_by_cmp key_cmp k) keys i [] low
    (ap is_eq (turned k (slice_index_or keys i []) Equal (found []))))
search_has keys k (Err i) rises low found = sym (list_any_none (eq_by_cmp key_cmp k) keys (λ j d within. side j d within (cases_lt j i))) where
  side : (j : ℕ) (d : List (List ℕ)) → j < length keys → (j < i) ⊎ (i ≤ j) → eq_by_cmp key_cmp k (slice_index_or keys j d) ≡ false
  side j d within (inl l) = ap is_eq (turned k (slice_index_or keys j d) Less ((found (searchable key_total keys k rises)).0 j d (omega arith) l))
  side j d within (inr h) = ap is_eq (turned k (slice_index_or keys j d) Greater ((found (searchable key_total keys k rises)).1 j d h within))

-- A rising list without some keys rises.
pub rest_rises : (keys others rest : List (List (List ℕ))) → IsRising keys → rest ≡ without_keys keys others → IsRising rest
rest_rises keys others rest rises is = subst IsRising (sym is) (IsStrictlySortedBy-filter key_cmp (λ k. not (has_key others k)) keys rises)

itself : (k : List (List ℕ)) → eq_by_cmp key_cmp k k ≡ true
itself k = (eq_by_cmp_equiv key_total).refl k

-- A key that is below all of a list is not in it.
not_below : (k : List (List ℕ)) (keys : List (List (List ℕ))) → IsBelow k keys → has_key keys k ≡ false
not_below k [] below = refl
not_below k (x ∷ keys) below = ap (λ b. b || has_key keys k) (ap is_eq below.0) ∙ not_below k keys below.1

-- Rising lists with the same keys are one.
pub same_rising : (one two : List (List (List ℕ))) → IsRising one → IsRising two → ((k : List (List ℕ)) → has_key one k ≡ has_key two k) → one ≡ two
same_rising [] [] first second same = refl
same_rising [] (y ∷ two) first second same = absurd (both_ways (has_key (y ∷ two) y) (sym (same y)) (ap (λ b. b || has_key two y) (itself y)))
same_rising (x ∷ one) [] first second same = absurd (both_ways (has_key (x ∷ one) x) (same x) (ap (λ b. b || has_key one x) (itself x)))
same_rising (x ∷ one) (y ∷ two) first second same = by (key_cmp x y) refl (same_rising one two) where
  lacks : (k z : List (List ℕ)) (keys : List (List (List ℕ))) → key_cmp k z ≡ Less → IsRising (z ∷ keys) → has_key (z ∷ keys) k ≡ false
  lacks k z keys l rises = not_below k (z ∷ keys) (l, below_lower k z keys l (sorted_head key_cmp z keys rises))

  tail : (k : List (List ℕ)) (b : Bool) → eq_by_cmp key_cmp k x ≡ b → x ≡ y → has_key one k ≡ has_key two k
  tail k true e is = at k (key_cmp-IsAntisymmetric k x (tied_by (key_cmp k x) e)) where
    at : (k : List (List ℕ)) → k ≡ x → has_key one k ≡ has_key two k
    at k is_x = ap (has_key one) is_x ∙ not_below x one (sorted_head key_cmp x one first)
        ∙ sym (ap (has_key two) (is_x ∙ is) ∙ not_below y two (sorted_head key_cmp y two second))
  tail k false e is = sym (ap (λ b. b || has_key one k) e) ∙ same k ∙ ap (λ b. b || has_key two k)
      (ap (λ (z : List (List ℕ)). eq_by_cmp key_cmp k z) (sym is) ∙ e)

  by : (r : Ordering) → key_cmp x y ≡ r → (IsRising one → IsRising two → ((k : List (List ℕ)) → has_key one k ≡ has_key two k) → one ≡ two) → x ∷ one ≡ y ∷ two
  by Less is rest = absurd (both_ways (has_key (y ∷ two) x) (lacks x y two is second) (sym (same x) ∙ ap (λ b. b || has_key one x) (itself x)))
  by Equal is rest =
      let one_key : x ≡ y = key_cmp-IsAntisymmetric x y is in
      ap (λ (z : List (List ℕ)). z ∷ one) one_key ∙ ap (λ (l : List (List (List ℕ))). y ∷ l)
      (rest (sorted_tail key_cmp x one first) (sorted_tail key_cmp y two second) (λ k. tail k (eq_by_cmp key_cmp k x) refl one_key))
  by Greater is rest = absurd (both_ways (has_key (x ∷ one) y) (lacks y x one (turned y x Greater is) first) (same y ∙ ap (λ b. b || has_key two y) (itself y)))

or_in : (a b : Bool) → (b ≡ true → a ≡ true) → (a || b) ≡ a
or_in true b into = refl
or_in false true into = sym (into refl)
or_in false false into = refl

-- A key of the list passes what all pass.
all_have : (keys others : List (List (List ℕ))) (k : List (List ℕ)) → list_all (has_key others) keys ≡ true → has_key keys k ≡ true → has_key others k ≡ true
all_have [] others k all has = absurd (cc has)
all_have (x ∷ keys) others k all has =
    let both = and_parts (has_key others x) (list_all (has_key others) keys) all in
    by (eq_by_cmp key_cmp k x) refl both.0 has (all_have keys others k both.1)
  where
    by : (b : Bool) → eq_by_cmp key_cmp k x ≡ b → has_key others x ≡ true → (b || has_key keys k) ≡ true → (has_key keys k ≡ true → has_key others k ≡ true)
        → has_key others k ≡ true
    by true e here has later = ap (has_key others) (key_cmp-IsAntisymmetric k x (tied_by (key_cmp k x) e)) ∙ here
    by false e here has later = later has

-- Where not all pass, one of the list does not.
one_lacks : (keys others : List (List (List ℕ))) → list_all (has_key others) keys ≡ false
    → (k : List (List ℕ)) × ((has_key keys k ≡ true) × (has_key others k ≡ false))
one_lacks [] others some = absurd (cc some)
one_lacks (x ∷ keys) others some = by (has_key others x) refl some (one_lacks keys others) where
  by : (b : Bool) → has_key others x ≡ b → (b && list_all (has_key others) keys) ≡ false
      → (list_all (has_key others) keys ≡ false → (k : List (List ℕ)) × ((has_key keys k ≡ true) × (has_key others k ≡ false)))
      → (k : List (List ℕ)) × ((has_key (x ∷ keys) k ≡ true) × (has_key others k ≡ false))
  by false e some later = (x, (ap (λ b. b || has_key keys x) (itself x), e))
  by true e some later = let one = later some in (one.0, (or_right (eq_by_cmp key_cmp one.0 x) (has_key keys one.0) one.1.0, one.1.1))

-- Keys that a rising list has add nothing to it.
pub joined_same : (keys more : List (List (List ℕ))) → IsRising keys → IsRising more → list_all (has_key keys) more ≡ true → joined keys more ≡ keys
joined_same keys more first second all = same_rising (joined keys more) keys (merged_rises keys more first second) first
    (λ k. has_key-merged k keys more ∙ or_in (has_key keys k) (has_key more k) (all_have more keys k all))

-- A key that it lacks adds to it.
pub joined_more : (keys more : List (List (List ℕ))) → list_all (has_key keys) more ≡ false → joined keys more ≢ keys
joined_more keys more some same =
    let one = one_lacks more keys some in
    both_ways (has_key keys one.0) one.1.1 (sym (ap (λ (l : List (List (List ℕ))). has_key l one.0) same) ∙ has_key-merged one.0 keys more
    ∙ or_right (has_key keys one.0) (has_key more one.0) one.1.0)

some_in : (keys others : List (List (List ℕ))) (k : List (List ℕ)) → has_key keys k ≡ true → has_key others k ≡ true → list_any (has_key keys) others ≡ true
some_in keys [] k here there = absurd (cc there)
some_in keys (x ∷ others) k here there = by (eq_by_cmp key_cmp k x) refl there (some_in keys others k here) where
  by : (b : Bool) → eq_by_cmp key_cmp k x ≡ b → (b || has_key others k) ≡ true → (has_key others k ≡ true → list_any (has_key keys) others ≡ true)
      → list_any (has_key keys) (x ∷ others) ≡ true
  by true e there later = ap (λ b. b || list_any (has_key keys) others) (sym (ap (has_key keys) (key_cmp-IsAntisymmetric k x (tied_by (key_cmp k x) e))) ∙ here)
  by false e there later = or_right (has_key keys x) _ (later there)

one_in : (keys others : List (List (List ℕ))) → list_any (has_key keys) others ≡ true
    → (k : List (List ℕ)) × ((has_key keys k ≡ true) × (has_key others k ≡ true))
one_in keys [] some = absurd (cc some)
one_in keys (x ∷ others) some = by (has_key keys x) refl some (one_in keys others) where
  by : (b : Bool) → has_key keys x ≡ b → (b || list_any (has_key keys) others) ≡ true
      → (list_any (has_key keys) others ≡ true → (k : List (List ℕ)) × ((has_key keys k ≡ true) × (has_key others k ≡ true)))
      → (k : List (List ℕ)) × ((has_key keys k ≡ true) × (has_key (x ∷ others) k ≡ true))
  by true e some later = (x, (e, ap (λ b. b || has_key others x) (itself x)))
  by false e some later = let one = later some in (one.0, (one.1.0, or_right (eq_by_cmp key_cmp one.0 x) (has_key others one.0) one.1.1))

-- A key is left exactly where it was there and is not taken.
pub has_key-without : (keys others : List (List (List ℕ))) (k : List (List ℕ))
    → has_key (without_keys keys others) k ≡ (has_key keys k && not (has_key others k))
has_key-without [] others k = refl
has_key-without (x ∷ keys) others k = by (has_key others x) (eq_by_cmp key_cmp k x) refl refl (has_key-without keys others k) where
  both : (a b : Bool) → (a && not true) ≡ false
  both true b = refl
  both false b = refl

  by : (b c : Bool) → has_key others x ≡ b → eq_by_cmp key_cmp k x ≡ c → has_key (without_keys keys others) k ≡ (has_key keys k && not (has_key others k))
      → has_key (cond (not b) (x ∷ without_keys keys others) (without_keys keys others)) k ≡ ((c || has_key keys k) && not (has_key others k))
  by true true e f rest = rest ∙ ap (λ z. has_key keys k && not z) (same ∙ e) ∙ both (has_key keys k) true ∙ sym (ap not (same ∙ e)) where
    same : has_key others k ≡ has_key others x
    same = ap (has_key others) (key_cmp-IsAntisymmetric k x (tied_by (key_cmp k x) f))
  by true false e f rest = rest
  by false true e f rest = ap (λ z. z || has_key (without_keys keys others) k) f
      ∙ sym (ap not (ap (has_key others) (key_cmp-IsAntisymmetric k x (tied_by (key_cmp k x) f)) ∙ e))
  by false false e f rest = ap (λ z. z || has_key (without_keys keys others) k) f ∙ rest

-- Where none of the others is in a rising list, nothing is left out.
pub without_same : (keys others : List (List (List ℕ))) → IsRising keys → list_any (has_key keys) others ≡ false → without_keys keys others ≡ keys
without_same keys others rises none = same_rising (without_keys keys others) keys (rest_rises keys others _ rises refl) rises
    (λ k. has_key-without keys others k ∙ by k (has_key keys k) (has_key others k) refl refl) where
      by : (k : List (List ℕ)) (a b : Bool) → has_key keys k ≡ a → has_key others k ≡ b → (a && not b) ≡ a
      by k true true e f = absurd (both_ways (list_any (has_key keys) others) none (some_in keys others k e f))
      by k true false e f = refl
      by k false b e f = refl

-- Where one is, it is left out.
pub without_less : (keys others : List (List (List ℕ))) → list_any (has_key keys) others ≡ true → without_keys keys others ≢ keys
without_less keys others some same =
    let one = one_in keys others some in
    both_ways (has_key keys one.0) (sym (ap (λ (l : List (List (List ℕ))). has_key l one.0) same) ∙ has_key-without keys others one.0
    ∙ ap (λ z. has_key keys one.0 && not z) one.1.1 ∙ none (has_key keys one.0)) one.1.0
  where
    none : (a : Bool) → (a && not true) ≡ false
    none true = refl
    none false = refl
