-- Texts cut at their slashes.
use Rattle.std.proofs.Common.{◌≡◌, ◌<◌, ◌+◌, ℕ, List, [], ◌∷◌, length, take, drop, Some, None}
use Rattle.std.proofs.Common.{Bool, true, false, cond, ◌==◌, refl, sym, ◌∙◌, ap, arith, ◌≤◌, not, nat_lt}
use Rattle.std.proofs.lemmas.Bool.Decides.{nat_tests}
use Rattle.std.specs.List.{slice_split, onto_first, position, position_or_len}
use Rattle.std.proofs.lemmas.List.Splits.{slice_split_first}

-- a slash
abbrev is_slash : ℕ → Bool
is_slash c = c == 47

-- a text with no slash is its own one part
split_none : (rest : List ℕ) → length rest ≤ position_or_len is_slash rest → slice_split is_slash rest ≡ rest ∷ []
split_none [] h = refl
split_none (x ∷ xs) h =
    elim (x == 47) as (λ b. length (x ∷ xs) ≤ cond (not b) (1 + position_or_len is_slash xs) 0
    → cond b ([] ∷ slice_split is_slash xs) (onto_first x (slice_split is_slash xs)) ≡ (x ∷ xs) ∷ []) [
      | true ↦ λ k. absurd (omega arith)
      | false ↦ λ k. ap (onto_first x) (split_none xs (omega arith))
    ] h

-- a place that isn't there fails its test
no_place : (b : Bool) (n : ℕ) → None ≡ cond b (Some n) None → b ≡ false
no_place true n e = cc
no_place false n e = refl

-- a place that is there passes its test
a_place : (b : Bool) (m n : ℕ) → Some m ≡ cond b (Some n) None → (b ≡ true) × (m ≡ n)
a_place true m n e = (refl, cc)
a_place false m n e = cc

-- a text is the part before its first slash and the parts of what is after it
pub parts_around : (rest front back : List ℕ) (at : ℕ) → Some at ≡ position is_slash rest → front ≡ take at rest → back ≡ drop (at + 1) rest
    → slice_split is_slash rest ≡ front ∷ slice_split is_slash back
parts_around rest front back at found front_is back_is =
    let place = a_place (nat_lt (position_or_len is_slash rest) (length rest)) at (position_or_len is_slash rest) found in
    let below : position_or_len is_slash rest < length rest = grind (arith, nat_tests, place) in
    slice_split_first is_slash rest 0 below
    ∙ (λ i. take (sym place.1 i) rest ∷ slice_split is_slash (drop (sym place.1 i + 1) rest))
    ∙ (λ i. sym front_is i ∷ slice_split is_slash (sym back_is i))

-- where there is no first slash there is one part
pub no_parts : (rest : List ℕ) → None ≡ position is_slash rest → slice_split is_slash rest ≡ rest ∷ []
no_parts rest none =
    let past = no_place (nat_lt (position_or_len is_slash rest) (length rest)) (position_or_len is_slash rest) none in
    split_none rest (grind (arith, nat_tests))
