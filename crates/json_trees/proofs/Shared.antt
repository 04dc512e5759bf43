-- Keys that are apart and share their first segments part after them.
use Rattle.std.proofs.Common.{◌≡◌, ℕ, zero, suc, ◌<◌, ◌⊎◌, inl, inr, ◌||◌, Bool, true, false, List, []}
use Rattle.std.proofs.Common.{◌∷◌, map, take, drop, length, Ordering, Less, Equal, Greater, refl, sym, ap, ◌∙◌, arith}
use Rattle.std.specs.List.{All, AllPairs, AllByRecursion}
use Rattle.std.specs.List.Sorted.{IsStrictlySortedBy}
use Rattle.std.proofs.lemmas.Cmp.{tied_itself}
use Rattle.key_names.specs.Key.{is_prefix, overlaps}
use Rattle.key_names.specs.Order.{bytes_cmp, bytes_total, key_cmp, bytes_cmp-IsAntisymmetric}
use Rattle.json_trees.specs.Apart.{AreApart, Parts, Pairwise}
use Rattle.json_trees.specs.Nested.{ShareFirst, IsNestable}
use Rattle.json_trees.specs.Tree.{Path}

or_left : (a b : Bool) → (a || b) ≡ false → a ≡ false
or_left true b e = e
or_left false b e = refl

-- of two keys where the first comes first and is no prefix of the other, they part
Parts-from : (k l : Path) → key_cmp k l ≡ Less → is_prefix k l ≡ false → Parts k l
Parts-from [] [] less apart = cc
Parts-from [] (b ∷ l) less apart = cc
Parts-from (a ∷ k) [] less apart = cc
Parts-from (a ∷ k) (b ∷ l) less apart = by (bytes_cmp a b) refl (Parts-from k l)
  where
    by : (o : Ordering) → bytes_cmp a b ≡ o → (key_cmp k l ≡ Less → is_prefix k l ≡ false → Parts k l) → (bytes_cmp a b ≡ Less) ⊎ ((a ≡ b) × Parts k l)
    by Less e further = inl e
    by Equal e further = inr (bytes_cmp-IsAntisymmetric a b e, further (rw e at less) (rw e at apart))
    by Greater e further = let never = rw e at less in cc

cons_first : (a b : List ℕ) (k l : Path) → a ∷ k ≡ b ∷ l → a ≡ b
cons_first a b k l e = cc

cons_rest : (a b : List ℕ) (k l : Path) → a ∷ k ≡ b ∷ l → k ≡ l
cons_rest a b k l e = cc

-- keys that part and have the same first segments part after them
Parts-drop : (n : ℕ) (k l : Path) → take n k ≡ take n l → Parts k l → Parts (drop n k) (drop n l)
Parts-drop zero k l same parted = parted
Parts-drop (suc n) [] l same parted = absurd parted
Parts-drop (suc n) (a ∷ k) [] same parted = absurd parted
Parts-drop (suc n) (a ∷ k) (b ∷ l) same (inl less) = let tied : bytes_cmp a b ≡ Equal = ap (bytes_cmp a) (sym (cons_first a b (take n k) (take n l) same))
    ∙ tied_itself bytes_total a in cc
Parts-drop (suc n) (a ∷ k) (b ∷ l) same (inr later) = Parts-drop n k l (cons_rest a b (take n k) (take n l) same) later.1

-- what holds of each by its index holds of each by recursion
pub each : {X : Type 0} (P : X → Type 0) (xs : List X) → All P xs → AllByRecursion P xs
each P [] h = tt
each P (x ∷ xs) h = (h zero x (omega arith), each P xs (λ i d within. h (suc i) d (omega arith)))

later_ones : {X : Type 0} (R : X → X → Type 0) (x : X) (xs : List X) → AllPairs R (x ∷ xs) → All (λ y. R x y) xs
later_ones R x xs h i d within = h zero (suc i) d (omega arith) (omega arith)

others : {X : Type 0} (R : X → X → Type 0) (x : X) (xs : List X) → AllPairs R (x ∷ xs) → AllPairs R xs
others R x xs h i j d before within = h (suc i) (suc j) d (omega arith) (omega arith)

first_parts : (n : ℕ) (k : Path) (keys : List Path) → AllByRecursion (λ l. key_cmp k l ≡ Less) keys → AllByRecursion (λ l. overlaps k l ≡ false) keys
    → AllByRecursion (λ l. take n k ≡ take n l) keys
    → AllByRecursion (λ l. Parts (drop n k) l) (map (λ l. drop n l) keys)
first_parts n k [] rising apart alike = tt
first_parts n k (l ∷ keys) rising apart alike =
    (Parts-drop n k l alike.0 (Parts-from k l rising.0 (or_left (is_prefix k l) (is_prefix l k) apart.0)), first_parts n k keys rising.1 apart.1 alike.1)

all_part : (n : ℕ) (keys : List Path) → IsStrictlySortedBy key_cmp keys → AllPairs (λ k l. overlaps k l ≡ false) keys
    → AllPairs (λ k l. take n k ≡ take n l) keys → Pairwise Parts (map (λ k. drop n k) keys)
unfolding IsStrictlySortedBy
all_part n [] rising apart alike = tt
all_part n (k ∷ keys) rising apart alike = (
  first_parts n k keys rising.0 (each (λ l. overlaps k l ≡ false) keys (later_ones (λ k l. overlaps k l ≡ false) k keys apart))
      (each (λ l. take n k ≡ take n l) keys (later_ones (λ k l. take n k ≡ take n l) k keys alike)),
  all_part n keys rising.1 (others (λ k l. overlaps k l ≡ false) k keys apart) (others (λ k l. take n k ≡ take n l) k keys alike),
)

-- keys that are apart and share their first n segments are nestable after these
pub IsNestable-shared : (n : ℕ) (keys : List Path) → AreApart keys → ShareFirst n keys → IsNestable n keys
IsNestable-shared n keys apart shared = record {
  longer = each (λ key. n < length key) keys shared.longer;
  parted =
      all_part n keys apart.rising apart.no_prefix shared.alike;
}
