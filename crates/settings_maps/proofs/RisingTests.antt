-- The test whether keys rise.
use Rattle.std.proofs.Common.{◌≡◌, ℕ, suc, ◌+◌, List, [], ◌∷◌, length, slice_index_or, Bool, true, false, IsTrue, refl, sym, ap, subst, arith}
use Rattle.std.specs.declared.cmp.Ordering.{Ordering}
use Rattle.std.specs.declared.cmp.Ordering.TheVariants.{Less, Equal, Greater}
use Rattle.std.specs.Ordering.{is_lt}
use Rattle.std.specs.Cmp.{IsTotalOrder}
use Rattle.std.specs.List.{AllByRecursion, AllAdjacentBelow, IsAllAdjacentAnswer}
use Rattle.std.specs.List.Sorted.{IsStrictlySortedBy}
use Rattle.std.proofs.lemmas.Map.Keys.{Less-from_sorted}
use Rattle.key_names.specs.Order.{key_cmp, key_total}
use Rattle.settings_maps.specs.KeyList.{IsRising}

less : (r : Ordering) → is_lt r ≡ true → r ≡ Less
less Less is = refl
less Equal is = absurd (cc is)
less Greater is = absurd (cc is)

-- What is below a key is below all that the key is below.
all_later : {K : Type 0} {R : K → K → Ordering} → IsTotalOrder R → (x y : K) (ks : List K) → R x y ≡ Less → AllByRecursion (λ z. R y z ≡ Less) ks
    → AllByRecursion (λ z. R x z ≡ Less) ks
all_later o x y [] low h = tt
all_later o x y (k ∷ ks) low h = (o.trans x y k low h.0, all_later o x y ks low h.1)

-- Keys of which each is below the next rise.
rising_from : {K : Type 0} {R : K → K → Ordering} → IsTotalOrder R → (ks : List K) → AllAdjacentBelow (λ x y. true ≡ is_lt (R x y)) ks (length ks)
    → IsStrictlySortedBy R ks
unfolding IsStrictlySortedBy
rising_from o [] adjacent = tt
rising_from o (x ∷ []) adjacent = (tt, tt)
rising_from {R = R} o (x ∷ y ∷ ks) adjacent =
    let tail : IsStrictlySortedBy R (y ∷ ks) =
    rising_from o (y ∷ ks) (λ k d low.
    let e : suc k + 1 ≡ suc (k + 1) = omega arith in
    subst (λ (n : ℕ). true ≡ is_lt (R (slice_index_or (y ∷ ks) k d) (slice_index_or (x ∷ y ∷ ks) n d))) e (adjacent (suc k) d (omega arith))) in
    let first : R x y ≡ Less = less _ (sym (adjacent 0 x (omega arith))) in
    ((first, all_later o x y ks first tail.0), tail)

-- What a test of each key and the next tells.
abbrev pub Tells : List (List (List ℕ)) → Bool → Type 0
Tells keys b = IsAllAdjacentAnswer (λ x y r. r ≡ is_lt (key_cmp x y)) keys b

-- Where the test says so the keys rise.
pub tells_rising : (keys : List (List (List ℕ))) (b : Bool) → Tells keys b → IsTrue b → IsRising keys
tells_rising keys true h is = rising_from key_total keys h
tells_rising keys false h is = absurd (cc is)

-- Where they rise it says so.
pub rising_told : (keys : List (List (List ℕ))) (b : Bool) → Tells keys b → IsRising keys → IsTrue b
rising_told keys true h rises = refl
rising_told keys false h rises =
    let low : key_cmp (slice_index_or keys h.0 []) (slice_index_or keys (h.0 + 1) []) ≡ Less =
    Less-from_sorted key_cmp keys h.0 (h.0 + 1) [] rises (omega arith) h.1 in
    absurd (cc (h.2 [], ap is_lt low))
