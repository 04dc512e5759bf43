-- Texts cut at their zero bytes.
use Rattle.std.proofs.Common.{◌≡◌, ◌≤◌, ◌<◌, ◌+◌, ℕ, List, [], ◌∷◌, length, refl, Some}
use Rattle.std.proofs.Common.{None, Bool, true, false, cond, not, nat_lt, take, drop, get_or, ◌==◌, sym, ◌∙◌, ap, arith}
use Rattle.std.proofs.lemmas.Bool.Decides.{nat_tests}
use Rattle.std.specs.List.{onto_first, position, position_or_len}
use Rattle.std.specs.Str.{IsUtf8, IsCharBoundary}
use Rattle.std.proofs.lemmas.List.Splits.{slice_split_first}
use Rattle.std.proofs.lemmas.List.Quantifiers.{position-Some}
use Rattle.std.proofs.lemmas.Str.{IsCharBoundary-before_ascii, IsCharBoundary-after_ascii}
use Rattle.key_names.specs.Packed.{parts}

abbrev pub is_zero : ℕ → Bool
is_zero b = b == 0

-- A text without a zero byte is its own one part.
one_part : (text : List ℕ) → length text ≤ position_or_len is_zero text → parts text ≡ text ∷ []
one_part [] h = refl
one_part (x ∷ xs) h =
    elim (x == 0) as (λ b. length (x ∷ xs) ≤ cond (not b) (1 + position_or_len is_zero xs) 0
    → cond b ([] ∷ parts xs) (onto_first x (parts xs)) ≡ (x ∷ xs) ∷ []) [
      | true ↦ λ k. absurd (omega arith)
      | false ↦ λ k. ap (onto_first x) (one_part xs (omega arith))
    ] h

-- a place that isn't there fails its test
no_place : (b : Bool) (n : ℕ) → cond b (Some n) None ≡ None → b ≡ false
no_place true n e = cc
no_place false n e = refl

-- a place that is there passes its test
a_place : (b : Bool) (m n : ℕ) → cond b (Some n) None ≡ Some m → (b ≡ true) × (m ≡ n)
a_place true m n e = (refl, cc)
a_place false m n e = cc

-- Where there is no zero byte there is one part.
pub uncut_parts : (text : List ℕ) → position is_zero text ≡ None → parts text ≡ text ∷ []
uncut_parts text none =
    let past = no_place (nat_lt (position_or_len is_zero text) (length text)) (position_or_len is_zero text) none in
    one_part text (grind (arith, nat_tests))

-- A text is the part before its first zero byte, and the parts of what comes after it.
pub cut_parts : (text : List ℕ) (at : ℕ) → position is_zero text ≡ Some at → parts text ≡ take at text ∷ parts (drop (at + 1) text)
cut_parts text at some =
    let place = a_place (nat_lt (position_or_len is_zero text) (length text)) at (position_or_len is_zero text) some in
    let below : position_or_len is_zero text < length text = grind (arith, nat_tests, place) in
    slice_split_first is_zero text 0 below ∙ (λ i. take (sym place.1 i) text ∷ parts (drop (sym place.1 i + 1) text))

-- The first zero byte is a character.
zero_at : (text : List ℕ) (at : ℕ) → position is_zero text ≡ Some at → (at < length text) × (get_or text at 0 < 128)
zero_at text at some =
    let at_zero = position-Some is_zero text at 0 some in
    (at_zero.0, let is = at_zero.1 in grind (arith, nat_tests, is))

-- One may cut before it, and after it.
pub boundary_at_zero : (text : List ℕ) (at : ℕ) → position is_zero text ≡ Some at → IsCharBoundary text at
boundary_at_zero text at some = let zero = zero_at text at some in IsCharBoundary-before_ascii text at zero.0 zero.1

pub boundary_after_zero : (text : List ℕ) (at : ℕ) → IsUtf8 text → position is_zero text ≡ Some at → IsCharBoundary text (at + 1)
boundary_after_zero text at utf8 some = let zero = zero_at text at some in IsCharBoundary-after_ascii text at utf8 zero.0 zero.1
