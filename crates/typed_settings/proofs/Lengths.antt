-- How long a printed pattern is.
use Rattle.std.proofs.Common.{◌≡◌, ℕ, ◌+◌, ◌<◌, ◌≤◌, List, [], ◌∷◌, length, get_or, take, length-append, ap, arith}
use Rattle.std.specs.List.{sum_by}
use Rattle.std.proofs.lemmas.List.Sums.{sum_by-cons, sum_by_more, sum_by-take-le}
use Rattle.typed_settings.specs.Pattern.{printed_place, printed_pattern}
use Rattle.typed_settings.specs.declared.place.Place.{Place}

-- A printed place and the dot after it.
abbrev pub dotted_len : Place → ℕ
dotted_len place = length (printed_place place) + 1

-- The printed pattern and a dot after it.
pub dotted_sum : (places : List Place) → 0 < length places → length (printed_pattern places) + 1 ≡ sum_by dotted_len places
dotted_sum [] some = absurd (omega (arith, some))
dotted_sum (x ∷ []) some = omega (arith, sum_by-cons dotted_len x [])
dotted_sum (x ∷ y ∷ places) some =
    let rest = dotted_sum (y ∷ places) (omega arith) in
    omega (arith, rest, sum_by-cons dotted_len x (y ∷ places), length-append (printed_place x) (46 ∷ printed_pattern (y ∷ places)))

-- Where the places so far are too long, all are.
pub too_long : (places : List Place) (i : ℕ) (place : Place) → i < length places → place ≡ get_or places i place
    → 1025 < sum_by dotted_len (take i places) + dotted_len place → 1024 < length (printed_pattern places)
too_long places i place within is long =
    let more = sum_by_more dotted_len places i place within in
    let here = ap dotted_len is in
    omega (arith, long, more, here, sum_by-take-le dotted_len places (i + 1), dotted_sum places (omega (arith, within)))

-- Where all places are short enough, so is the pattern.
pub short_enough : (places : List Place) → sum_by dotted_len places ≤ 1025 → length (printed_pattern places) ≤ 1024
short_enough [] short = omega arith
short_enough (x ∷ places) short = omega (arith, short, dotted_sum (x ∷ places) (omega arith))
