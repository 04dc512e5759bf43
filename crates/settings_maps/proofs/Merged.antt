-- Two rising lists of keys, merged.
use Rattle.std.proofs.Common.{arith, ◌≡◌, ◌<◌, ◌⊎◌, inl, inr, ℕ, List, [], ◌∷◌, ◌++◌, length}
use Rattle.std.proofs.Common.{drop, slice_index_or, ◌||◌, Bool, true, false, refl, sym, ◌∙◌, ap, subst, append-nil, append_assoc}
use Rattle.std.specs.declared.cmp.Ordering.{Ordering}
use Rattle.std.specs.declared.cmp.Ordering.TheVariants.{Less, Equal, Greater}
use Rattle.std.specs.Ordering.{eq_by_cmp, ordering_reverse, match_ordering}
use Rattle.std.specs.List.{AllByRecursion}
use Rattle.std.specs.List.Sorted.{IsStrictlySortedBy}
use Rattle.std.specs.Set.{merge_step}
use Rattle.key_names.specs.Order.{key_cmp, key_total, key_cmp-IsAntisymmetric}
use Rattle.settings_maps.specs.KeyList.{IsRising, IsLeastOf, has_key, joined}

abbrev Keys : Type 0
Keys = List (List (List ℕ))

-- The key is below each of these.
abbrev pub IsBelow : List (List ℕ) → List (List (List ℕ)) → Type 0
IsBelow k keys = AllByRecursion (λ q. key_cmp k q ≡ Less) keys

pub below_lower : (k x : List (List ℕ)) (keys : List (List (List ℕ))) → key_cmp k x ≡ Less → IsBelow x keys → IsBelow k keys
below_lower k x [] l below = tt
below_lower k x (y ∷ keys) l below = (key_total.trans k x y l below.0, below_lower k x keys l below.1)

step_below : (k x : List (List ℕ)) (xs : Keys) (on : Keys → Keys) → key_cmp k x ≡ Less → IsBelow k xs → ((ys : Keys) → IsBelow k ys → IsBelow k (on ys))
    → (ys : Keys) → IsBelow k ys → IsBelow k (merge_step key_cmp true x xs on ys)
step_below k x xs on l below rest [] low = (l, below)
step_below k x xs on l below rest (y ∷ ys) low = by (key_cmp x y) (step_below k x xs on l below rest ys low.1) where
  by : (r : Ordering) → IsBelow k (merge_step key_cmp true x xs on ys)
      → IsBelow k (match_ordering r (x ∷ on (y ∷ ys)) (x ∷ on ys) (y ∷ merge_step key_cmp true x xs on ys))
  by Less later = (l, rest (y ∷ ys) low)
  by Equal later = (l, rest ys low.1)
  by Greater later = (low.0, later)

-- What is below both is below them merged.
merged_below : (k : List (List ℕ)) (xs ys : Keys) → IsBelow k xs → IsBelow k ys → IsBelow k (joined xs ys)
merged_below k [] ys first second = second
merged_below k (x ∷ xs) ys first second = step_below k x xs (joined xs) first.0 first.1 (λ zs low. merged_below k xs zs first.1 low) ys second

step_rises : (x : List (List ℕ)) (xs : Keys) → IsRising (x ∷ xs) → ((ys : Keys) → IsRising ys → IsRising (joined xs ys)) → (ys : Keys) → IsRising ys
    → IsRising (joined (x ∷ xs) ys)
unfolding IsStrictlySortedBy
step_rises x xs first rest [] second = first
step_rises x xs first rest (y ∷ ys) second = by (key_cmp x y) refl (step_rises x xs first rest ys second.1) where
  by : (r : Ordering) → key_cmp x y ≡ r → IsRising (joined (x ∷ xs) ys)
      → IsRising (match_ordering r (x ∷ joined xs (y ∷ ys)) (x ∷ joined xs ys) (y ∷ joined (x ∷ xs) ys))
  by Less is later = (merged_below x xs (y ∷ ys) first.0 (is, below_lower x y ys is second.0), rest (y ∷ ys) second)
  by Equal is later = (
    merged_below x xs ys first.0 (subst (λ (z : List (List ℕ)). IsBelow z ys) (sym (key_cmp-IsAntisymmetric x y is)) second.0),
    rest ys
        second.1,
  )
  by Greater is later =
      let lower : key_cmp y x ≡ Less = key_total.antisymm y x ∙ ap ordering_reverse is in
      (merged_below y (x ∷ xs) ys (lower, below_lower y x xs lower first.0) second.0, later)

-- Two rising lists merged rise.
pub merged_rises : (xs ys : List (List (List ℕ))) → IsRising xs → IsRising ys → IsRising (joined xs ys)
unfolding IsStrictlySortedBy
merged_rises [] ys first second = second
merged_rises (x ∷ xs) ys first second = step_rises x xs first (λ zs rises. merged_rises xs zs first.1 rises) ys second

joined_by : (a b x y : List (List ℕ)) (one two : Keys) (r : Ordering) → x ≡ a → y ≡ b → key_cmp x y ≡ r
    → joined (a ∷ one) (b ∷ two) ≡ match_ordering r (a ∷ joined one (b ∷ two)) (a ∷ joined one two) (b ∷ joined (a ∷ one) two)
joined_by a b x y one two r first second is = ap (λ s. match_ordering s (a ∷ joined one (b ∷ two)) (a ∷ joined one two) (b ∷ joined (a ∷ one) two))
    (ap (λ z. key_cmp z b) (sym first) ∙ ap (key_cmp x) (sym second) ∙ is)

-- The order of the two first keys tells which is the first of both lists merged, and what is left of each.
pub least_less : (one two : List (List (List ℕ))) (x y k : List (List ℕ)) → 0 < length one → 0 < length two → x ≡ slice_index_or one 0 x
    → y ≡ slice_index_or two 0 y → k ≡ slice_index_or one 0 k → key_cmp x y ≡ Less → IsLeastOf one two k 1 0
least_less [] two x y k some others first second here is = absurd (omega arith)
least_less (a ∷ one) [] x y k some others first second here is = absurd (omega arith)
least_less (a ∷ one) (b ∷ two) x y k some others first second here is = record {
  in_first = omega arith;
  in_second = omega arith;
  some = omega arith;
  least = joined_by a b x y one two Less first second is ∙ ap (λ (z : List (List ℕ)). z ∷ joined one (b ∷ two)) (sym here);
}

pub least_equal : (one two : List (List (List ℕ))) (x y k : List (List ℕ)) → 0 < length one → 0 < length two → x ≡ slice_index_or one 0 x
    → y ≡ slice_index_or two 0 y → k ≡ slice_index_or one 0 k → key_cmp x y ≡ Equal → IsLeastOf one two k 1 1
least_equal [] two x y k some others first second here is = absurd (omega arith)
least_equal (a ∷ one) [] x y k some others first second here is = absurd (omega arith)
least_equal (a ∷ one) (b ∷ two) x y k some others first second here is = record {
  in_first = omega arith;
  in_second = omega arith;
  some = omega arith;
  least = joined_by a b x y one two Equal first second is ∙ ap (λ (z : List (List ℕ)). z ∷ joined one two) (sym here);
}

pub least_greater : (one two : List (List (List ℕ))) (x y k : List (List ℕ)) → 0 < length one → 0 < length two → x ≡ slice_index_or one 0 x
    → y ≡ slice_index_or two 0 y → k ≡ slice_index_or two 0 k → key_cmp x y ≡ Greater → IsLeastOf one two k 0 1
least_greater [] two x y k some others first second here is = absurd (omega arith)
least_greater (a ∷ one) [] x y k some others first second here is = absurd (omega arith)
least_greater (a ∷ one) (b ∷ two) x y k some others first second here is = record {
  in_first = omega arith;
  in_second = omega arith;
  some = omega arith;
  least = joined_by a b x y one two Greater first second is ∙ ap (λ (z : List (List ℕ)). z ∷ joined (a ∷ one) two) (sym here);
}

-- The key that comes first is appended, and what is left of both lists is to be merged after it.
pub least_pushed : (done now one two ones twos whole : List (List (List ℕ))) (k : List (List ℕ)) (first second : ℕ) → now ≡ done ++ k ∷ []
    → IsLeastOf one two k first second → ones ≡ drop first one → twos ≡ drop second two → done ++ joined one two ≡ whole → now ++ joined ones twos ≡ whole
least_pushed done now one two ones twos whole k first second pushed least left right is =
    ap (λ (l : Keys). l ++ joined ones twos) pushed ∙ append_assoc done (k ∷ []) (joined ones twos)
    ∙ ap (λ (l : Keys). done ++ k ∷ l) (ap (λ (l : Keys). joined l twos) left ∙ ap (joined (drop first one)) right)
    ∙ sym (ap (λ (l : Keys). done ++ l) least.least) ∙ is

alone : (xs : Keys) → joined xs [] ≡ xs
alone [] = refl
alone (x ∷ xs) = refl

-- Where one list is used up, what is left of the other is both merged.
pub rest_merged : (all done both xs ys : List (List (List ℕ))) → (xs ≡ []) ⊎ (ys ≡ []) → both ≡ (done ++ xs) ++ ys → done ++ joined xs ys ≡ all → both ≡ all
rest_merged all done both xs ys (inl none) pushed whole = pushed ∙ ap (λ (l : Keys). (done ++ l) ++ ys) none ∙ ap (λ (l : Keys). l ++ ys) (append-nil done)
    ∙ sym (ap (λ (l : Keys). done ++ joined l ys) none) ∙ whole
rest_merged all done both xs ys (inr none) pushed whole = pushed ∙ ap (λ (l : Keys). (done ++ xs) ++ l) none ∙ append-nil (done ++ xs)
    ∙ sym (ap (λ (l : Keys). done ++ joined xs l) none ∙ ap (λ (l : Keys). done ++ l) (alone xs)) ∙ whole

module _ (k : List (List ℕ)) where
  or_none : (b : Bool) → b ≡ (b || false)
  or_none true = refl
  or_none false = refl

  or_over : (a b c : Bool) → (a || (b || c)) ≡ ((a || b) || c)
  or_over true b c = refl
  or_over false b c = refl

  or_once : (a b c : Bool) → (a || (b || c)) ≡ ((a || b) || (a || c))
  or_once true b c = refl
  or_once false b c = refl

  or_swap : (a b c : Bool) → (a || (b || c)) ≡ (b || (a || c))
  or_swap true true c = refl
  or_swap true false c = refl
  or_swap false b c = refl

  step_has : (x : List (List ℕ)) (xs : Keys) → ((ys : Keys) → has_key (joined xs ys) k ≡ (has_key xs k || has_key ys k)) → (ys : Keys)
      → has_key (joined (x ∷ xs) ys) k ≡ (has_key (x ∷ xs) k || has_key ys k)
  step_has x xs rest [] = or_none (has_key (x ∷ xs) k)
  step_has x xs rest (y ∷ ys) = by (key_cmp x y) refl (step_has x xs rest ys) where
    by : (r : Ordering) → key_cmp x y ≡ r → has_key (joined (x ∷ xs) ys) k ≡ (has_key (x ∷ xs) k || has_key ys k)
        → has_key (match_ordering r (x ∷ joined xs (y ∷ ys)) (x ∷ joined xs ys) (y ∷ joined (x ∷ xs) ys)) k ≡ (has_key (x ∷ xs) k || has_key (y ∷ ys) k)
    by Less is later = ap (λ b. eq_by_cmp key_cmp k x || b) (rest (y ∷ ys)) ∙ or_over (eq_by_cmp key_cmp k x) (has_key xs k) (has_key (y ∷ ys) k)
    by Equal is later = ap (λ b. eq_by_cmp key_cmp k x || b) (rest ys) ∙ or_once (eq_by_cmp key_cmp k x) (has_key xs k) (has_key ys k)
        ∙ ap (λ (z : List (List ℕ)). has_key (x ∷ xs) k || (eq_by_cmp key_cmp k z || has_key ys k)) (key_cmp-IsAntisymmetric x y is)
    by Greater is later = ap (λ b. eq_by_cmp key_cmp k y || b) later ∙ or_swap (eq_by_cmp key_cmp k y) (has_key (x ∷ xs) k) (has_key ys k)

  -- They have the keys of either.
  pub has_key-merged : (xs ys : List (List (List ℕ))) → has_key (joined xs ys) k ≡ (has_key xs k || has_key ys k)
  has_key-merged [] ys = refl
  has_key-merged (x ∷ xs) ys = step_has x xs (λ zs. has_key-merged xs zs) ys
