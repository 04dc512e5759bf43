-- The printed text of segments, segment by segment.
use Rattle.std.proofs.Common.{◌≡◌, ◌<◌, ◌≤◌, ◌+◌, ℕ, List, [], ◌∷◌, ◌++◌, true, false, if◌then◌else◌, length, length-append, refl, arith}
use Rattle.std.specs.Prelude.{IsTrue}
use Rattle.std.specs.List.{list_all, sum_by}
use Rattle.std.proofs.lemmas.Bool.{leb-true}
use Rattle.std.proofs.lemmas.List.Sums.{sum_by-cons, sum_by_push}
use Rattle.key_names.specs.Segment.{is_bare, quoted, file_name, has_short_name, printed_segment}
use Rattle.key_names.specs.Key.{printed}
use Rattle.key_names.specs.Packed.{parts}
use Rattle.key_names.proofs.FileNames.{length-le-file_name}
use Rattle.key_names.proofs.Packed.{parted}

-- no segments, no text
pub printed-empty : (segments : List (List ℕ)) → length segments ≡ 0 → printed segments ≡ []
unfolding printed
printed-empty [] none = refl
printed-empty (segment ∷ segments) some = absurd (omega arith)

-- each printed segment with one byte more, for a dot
pub length-printed : (segments : List (List ℕ)) → 0 < length segments → length (printed segments) + 1 ≡ sum_by (λ s. length (printed_segment s) + 1) segments
unfolding printed
length-printed [] some = absurd (omega arith)
length-printed (segment ∷ []) some = omega (arith, sum_by-cons (λ (s : List ℕ). length (printed_segment s) + 1) segment [])
length-printed (segment ∷ next ∷ segments) some =
    omega (
      arith,
      length-append (printed_segment segment) (46 ∷ printed (next ∷ segments)),
      length-printed (next ∷ segments) (omega arith),
      sum_by-cons (λ (s : List ℕ). length (printed_segment s) + 1) segment (next ∷ segments),
    )

-- one segment more is printed after the others, each with a dot after it
pub length-printed-push : (segments : List (List ℕ)) (segment : List ℕ) → length (printed (segments ++ segment ∷ [])) ≡ sum_by
    (λ s. length (printed_segment s) + 1) segments + length (printed_segment segment)
length-printed-push segments segment =
    omega (
      arith,
      length-printed (segments ++ segment ∷ []) (omega (arith, length-append segments (segment ∷ []))),
      sum_by_push (λ (s : List ℕ). length (printed_segment s) + 1) segments segment,
    )

-- quotes add two bytes
pub length-printed_segment : (segment : List ℕ) → length (printed_segment segment) ≤ length segment + 2
length-printed_segment segment = elim (list_all is_bare segment) as (λ t. length (if t then segment else quoted segment) ≤ length segment + 2)
    [ true ↦ omega arith | false ↦ omega (arith, length-append segment (34 ∷ [])) ]

-- a segment with a short file name prints short
pub short_printed : (segment : List ℕ) → IsTrue (has_short_name segment) → length (printed_segment segment) ≤ 129
short_printed segment short = omega (arith, length-printed_segment segment, length-le-file_name segment, leb-true (length (file_name segment)) 127 short)

-- the first printed segment, a dot, and the others
pub printed-parts : (segment text : List ℕ) → printed (segment ∷ parts text) ≡ printed_segment segment ++ 46 ∷ printed (parts text)
unfolding printed
printed-parts segment text =
    let p = parted text in
    rw p.is refl

-- one segment is printed alone
pub printed-one : (segment : List ℕ) → printed (segment ∷ []) ≡ printed_segment segment
unfolding printed
printed-one segment = refl
