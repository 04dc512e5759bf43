-- Lists that are made along the numbers from 0 on.
use Rattle.std.proofs.Common.{◌≡◌, ℕ, zero, suc, ◌+◌, List, [], ◌∷◌, ◌++◌, map, sym, ◌∙◌, ap, arith, append_assoc}
use Rattle.std.specs.List.{flat_map, range_with_len}
use Rattle.std.proofs.lemmas.List.{flat_map_more, map_push}
use Rattle.load_input.specs.Numbers.{below}

last : (a n j : ℕ) → a + n ≡ j → range_with_len a (suc n) ≡ range_with_len a n ++ j ∷ []
last a zero j e = let same : a ≡ j = omega arith in ap (λ (x : ℕ). x ∷ []) same
last a (suc n) j e = ap (λ (xs : List ℕ). a ∷ xs) (last (a + 1) n j (omega arith))

-- The numbers below the next one.
pub below_more : (n : ℕ) → below (n + 1) ≡ below n ++ n ∷ []
below_more n = let next : n + 1 ≡ suc n = omega arith in ap below next ∙ last 0 n n (omega arith)

module _ {A : Type 0} where
  -- What is made of one number more.
  pub made_more : (f : ℕ → A) (before : List A) (n : ℕ) → (before ++ map f (below n)) ++ f n ∷ [] ≡ before ++ map f (below (n + 1))
  made_more f before n =
      append_assoc before (map f (below n)) (f n ∷ [])
      ∙ ap (λ (xs : List A). before ++ xs) (sym (ap (map f) (below_more n) ∙ map_push f (below n) n))

  -- The lists of one number more.
  pub lists_more : (f : ℕ → List A) (before : List A) (n : ℕ) → (before ++ flat_map f (below n)) ++ f n ≡ before ++ flat_map f (below (n + 1))
  lists_more f before n = flat_map_more f before (below n) n ∙ ap (λ (xs : List ℕ). before ++ flat_map f xs) (sym (below_more n))
