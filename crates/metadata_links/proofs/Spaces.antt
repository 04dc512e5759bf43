-- Texts cut at their spaces.
use Rattle.std.proofs.Common.{arith, ◌≡◌, ◌<◌, ◌≤◌, ◌+◌, ℕ, List, [], ◌∷◌, ◌++◌, length, filter, cond, not}
use Rattle.std.proofs.Common.{nat_lt, ◌==◌, Option, Some, None, MatchOption, Bor, Bool, true, false, refl, sym, ◌∙◌, ap}
use Rattle.std.specs.List.{slice_split, onto_first, position_or_len, before_first, after_first}
use Rattle.metadata_links.specs.Words.{words_in}
use Rattle.metadata_links.proofs.Rests.{taken_more}
use Rattle.std.proofs.lemmas.List.Splits.{slice_split_first}

-- A space.
abbrev is_space : ℕ → Bool
is_space b = b == 32

-- A text without a space is its own one part.
split_none : (text : List ℕ) → length text ≤ position_or_len is_space text → slice_split is_space text ≡ text ∷ []
split_none [] h = refl
split_none (x ∷ xs) h =
    elim (x == 32) as (λ b. length (x ∷ xs) ≤ cond (not b) (1 + position_or_len is_space xs) 0
    → cond b ([] ∷ slice_split is_space xs) (onto_first x (slice_split is_space xs)) ≡ (x ∷ xs) ∷ []) [
      | true ↦ λ k. absurd (omega arith)
      | false ↦ λ k. ap (onto_first x) (split_none xs (omega arith))
    ] h

-- A text is the part before its first space and the parts of what is after it.
pub cut_parts : (text : List ℕ) (r : Option (Bor (List ℕ) × Bor (List ℕ)))
    → MatchOption r (position_or_len is_space text ≡ length text) (λ x. (position_or_len is_space text < length text) × (x.0.now ≡ before_first is_space text)
    × (x.1.now ≡ after_first is_space text))
    → MatchOption r (slice_split is_space text ≡ text ∷ []) (λ p. slice_split is_space text ≡ p.0.now ∷ slice_split is_space p.1.now)
cut_parts text None past = split_none text (omega (arith, past))
cut_parts text (Some x) at = slice_split_first is_space text 0 at.0 ∙ (λ i. sym at.1 i ∷ slice_split is_space (sym at.2 i))

-- What a test takes of a list begins with what it takes of the first element.
pub filter_next : {X : Type 0} (p : X → Bool) (x : X) (xs : List X) → filter p (x ∷ xs) ≡ filter p (x ∷ []) ++ filter p xs
filter_next p x xs = by (p x) where
  by : (b : Bool) → cond b (x ∷ filter p xs) (filter p xs) ≡ cond b (x ∷ []) [] ++ filter p xs
  by true = refl
  by false = refl

-- The words of the text, with those of what is left.
pub words_more : (rest front back : List ℕ) (done now all : List (List ℕ)) → slice_split (λ b. b == 32) rest ≡ front ∷ slice_split (λ b. b == 32) back
    → done ++ words_in rest ≡ all → now ≡ done ++ filter (λ word. nat_lt 0 (length word)) (front ∷ []) → now ++ words_in back ≡ all
words_more rest front back done now all is whole put = taken_more (filter (λ word. nat_lt 0 (length word))) (filter_next (λ word. nat_lt 0 (length word)))
    (slice_split (λ b. b == 32) rest) (slice_split (λ b. b == 32) back) front all done now is whole put

pub words_all : (rest : List ℕ) (done now all : List (List ℕ)) → slice_split (λ b. b == 32) rest ≡ rest ∷ [] → done ++ words_in rest ≡ all
    → now ≡ done ++ filter (λ word. nat_lt 0 (length word)) (rest ∷ []) → now ≡ all
words_all rest done now all is whole put = put ∙ ap (λ l. done ++ filter (λ word. nat_lt 0 (length word)) l) (sym is) ∙ whole

pub ruleset words = (words_more, words_all)
