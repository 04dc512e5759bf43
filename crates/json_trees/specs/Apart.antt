-- Keys of which each may have a value besides the others.
use Rattle.std.specs.Prelude.{◌≡◌, ◌⊎◌, ℕ, List, [], ◌∷◌, false, ⊤}
use Rattle.std.specs.declared.cmp.Ordering.TheVariants.{Less}
use Rattle.std.specs.List.{AllPairs, AllByRecursion}
use Rattle.std.specs.List.Sorted.{IsStrictlySortedBy}
use Rattle.key_names.specs.Key.{overlaps}
use Rattle.key_names.specs.Order.{bytes_cmp, key_cmp}

-- The keys rise strictly, and none is a prefix of another.
pub record AreApart (keys : List (List (List ℕ))) : Type 0 where
  pub rising : IsStrictlySortedBy key_cmp keys
  pub no_prefix : AllPairs (λ key other. overlaps key other ≡ false) keys

-- ---- for private clauses

-- The keys are the same up to a segment, at which the first key's comes first.
abbrev pub Parts : List (List ℕ) → List (List ℕ) → Type 0
Parts [] l = ⊥
Parts (a ∷ k) [] = ⊥
Parts (a ∷ k) (b ∷ l) = (bytes_cmp a b ≡ Less) ⊎ ((a ≡ b) × Parts k l)

-- R holds of each element and each later one.
abbrev pub Pairwise : {X : Type 0} → (X → X → Type 0) → List X → Type 0
Pairwise R [] = ⊤
Pairwise R (x ∷ xs) = AllByRecursion (λ y. R x y) xs × Pairwise R xs
