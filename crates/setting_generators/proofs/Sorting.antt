-- Generators with different keys that are sorted by them rise.
use Rattle.std.proofs.Common.{◌≡◌, ◌+◌, ◌<◌, ℕ, suc, List, [], ◌∷◌, map, length, get_or, Bool, false, refl, sym, ap, ◌∙◌, subst, arith}
use Rattle.std.specs.List.{IsDistinct, AllByRecursion}
use Rattle.std.specs.List.Sorted.{IsPermutation, IsSortedBy, IsStrictlySortedBy}
use Rattle.std.specs.Map.{keys_of}
use Rattle.std.specs.Cmp.{IsStrictWeakOrder}
use Rattle.std.specs.Ordering.{eq_by_cmp, is_eq, is_lt, ordering_reverse}
use Rattle.std.specs.declared.cmp.Ordering.{Ordering}
use Rattle.std.specs.declared.cmp.Ordering.TheVariants.{Less, Equal, Greater}
use Rattle.std.proofs.lemmas.Bool.{false≢true}
use Rattle.std.proofs.lemmas.List.Sorted.{ranks_by, sorted_far, IsPermutation-map}
use Rattle.std.proofs.lemmas.Map.Keys.{IsDistinct-IsPermutation, IsDistinct-head, IsDistinct-tail}
use Rattle.key_names.specs.Order.{key_cmp, key_total}
use Rattle.setting_generators.specs.Generators.{Path, Given, IsRising, seen}
use Rattle.setting_generators.specs.declared.generator.Generator.{Generator}

abbrev before : Generator → Generator → Bool
before g h = is_lt (key_cmp g.key h.key)

-- Generators are ordered by their keys.
pub ranked : IsStrictWeakOrder (λ (g h : Generator). is_lt (key_cmp g.key h.key))
ranked = ranks_by key_total (λ (g : Generator). g.key)

less_is : (r : Ordering) → is_lt (ordering_reverse r) ≡ false → is_eq r ≡ false → r ≡ Less
less_is Less back other = refl
less_is Equal back other = absurd (false≢true (sym other))
less_is Greater back other = absurd (false≢true (sym back))

flips : (x y : Path) → eq_by_cmp key_cmp x y ≡ eq_by_cmp key_cmp y x
flips x y = by (key_cmp y x) (key_total.antisymm x y)
  where
    by : (r : Ordering) → key_cmp x y ≡ ordering_reverse r → is_eq (key_cmp x y) ≡ is_eq r
    by Less is = ap is_eq is
    by Equal is = ap is_eq is
    by Greater is = ap is_eq is

all_above : (g : Generator) (gs : List Generator) → ((j : ℕ) (d : Generator) → j < length gs → is_lt (key_cmp (get_or gs j d).key g.key) ≡ false)
    → AllByRecursion (λ k. eq_by_cmp key_cmp g.key k ≡ false) (keys_of (map seen gs))
    → AllByRecursion (λ k. key_cmp g.key k ≡ Less) (keys_of (map seen gs))
all_above g [] far none = tt
all_above g (h ∷ gs) far none = (
  less_is (key_cmp g.key h.key) (ap is_lt (sym (key_total.antisymm h.key g.key)) ∙ far 0 h (omega arith)) none.0,
  all_above g gs
      (λ j d within. far (suc j) d (omega (arith, within))) none.1,
)

rises : (gs : List Generator) → IsSortedBy before gs → IsDistinct (eq_by_cmp key_cmp) (keys_of (map seen gs)) → IsRising (map seen gs)
unfolding IsStrictlySortedBy
rises [] sorted distinct = tt
rises (g ∷ gs) sorted distinct = (
  all_above g gs (λ j d within. sorted_far before ranked (g ∷ gs) sorted 0 (suc j) d (omega arith) (omega (arith, within)))
      (IsDistinct-head (eq_by_cmp key_cmp) g.key (keys_of (map seen gs)) distinct),
  rises gs (λ k d low within. next k d (sorted (suc k) d (omega arith) (omega (arith, within))))
      (IsDistinct-tail (eq_by_cmp key_cmp) g.key (keys_of (map seen gs)) distinct),
)
  where
    next : (k : ℕ) (d : Generator) → before (get_or (g ∷ gs) (suc k + 1) d) (get_or gs k d) ≡ false → before (get_or gs (k + 1) d) (get_or gs k d) ≡ false
    next k d is = let place : suc k + 1 ≡ suc (k + 1) = omega arith in subst (λ (n : ℕ). before (get_or (g ∷ gs) n d) (get_or gs k d) ≡ false) place is

-- Sorted by their keys, which differ, generators rise.
pub sorted_rise : (listed sorted : List Generator) → IsDistinct (eq_by_cmp key_cmp) (keys_of (map seen listed)) → IsPermutation listed sorted
    → IsSortedBy (λ (g h : Generator). is_lt (key_cmp g.key h.key)) sorted → IsRising (map seen sorted)
sorted_rise listed sorted distinct moved is =
    rises sorted is (IsDistinct-IsPermutation (eq_by_cmp key_cmp) flips (keys_of (map seen listed)) (keys_of (map seen sorted))
    (IsPermutation-map (λ (x : Given). x.0) (map seen listed) (map seen sorted) (IsPermutation-map seen listed sorted moved)) distinct)

-- So are they as pairs.
pub seen_moved : (listed sorted : List Generator) → IsPermutation listed sorted → IsPermutation (map seen listed) (map seen sorted)
seen_moved listed sorted moved = IsPermutation-map seen listed sorted moved
