-- A text whose segments break a limit is refused, and one whose segments break none is a key.
use Rattle.std.proofs.Common.{◌<◌, ◌≤◌, ℕ, List, ◌∷◌, ◌&&◌, length, length-append, ◌∙◌, ap, arith}
use Rattle.std.specs.Prelude.{IsTrue}
use Rattle.std.specs.List.{list_all}
use Rattle.std.proofs.lemmas.List.Folds.{list_all-append}
use Rattle.key_names.specs.declared.key_error.KeyFault.{KeyFault}
use Rattle.key_names.specs.declared.key_error.KeyFault.TheVariants.{TooMany, SegmentTooLong, TooLong}
use Rattle.key_names.specs.Segment.{has_short_name}
use Rattle.key_names.specs.Key.{printed, fits, is_key}
use Rattle.key_names.specs.Spelling.{Spells}
use Rattle.key_names.specs.Faults.{BeginsAt, too_many, segment_too_long, too_long, LimitAt, at_surplus, at_overlong, at_end, Refuses, limit}
use Rattle.key_names.proofs.KeyLimits.{Fits-from, is_key-from}
use Rattle.key_names.proofs.Spellings.{Spells_some, Spells_valid}

-- a segment begins in the text
BeginsAt-within : {text : List ℕ} {segments : List (List ℕ)} {place : ℕ} → BeginsAt text segments place → place ≤ length text
BeginsAt-within begins = omega (arith, begins.place_is, ap length begins.text_is, length-append begins.front begins.rest)

-- a limit is broken in the text or at its end
pub LimitAt-within : {text : List ℕ} {segments : List (List ℕ)} {kind : KeyFault} {place : ℕ} → LimitAt text segments kind place → place ≤ length text
LimitAt-within (at_surplus first surplus others place is full begins) = BeginsAt-within begins
LimitAt-within (at_overlong first overlong others place is short long begins) = BeginsAt-within begins
LimitAt-within at_end = omega arith

module _ (text : List ℕ) (segments : List (List ℕ)) (spells : Spells text segments) where
  -- a 33rd segment
  pub surplus_refused : (place : ℕ) → LimitAt text segments TooMany place → Refuses text TooMany place
  surplus_refused place (at_surplus first surplus others p is full begins) =
      let many : 32 < length segments = omega (arith, full, ap length is, length-append first (surplus ∷ others)) in
      limit segments spells (too_many many) (at_surplus first surplus others place is full begins)

  -- few segments, one with too long a file name
  pub overlong_refused : (place : ℕ) → length segments ≤ 32 → LimitAt text segments SegmentTooLong place → Refuses text SegmentTooLong place
  overlong_refused place few (at_overlong first overlong others p is short long begins) =
      limit segments spells
      (segment_too_long few
      (ap (list_all has_short_name) is
      ∙ list_all-append has_short_name first (overlong ∷ others)
      ∙ ap (λ t. t && (has_short_name overlong && list_all has_short_name others)) short
      ∙ ap (λ t. t && list_all has_short_name others) long))
      (at_overlong first overlong others place is short long begins)

  -- few and short segments with too long a text
  pub wide_refused : length segments ≤ 32 → IsTrue (list_all has_short_name segments) → 1024 < length (printed segments) → Refuses text TooLong (length text)
  wide_refused few short wide = limit segments spells (too_long few short wide) at_end

-- what a text spells within the limits is a key
pub is_key-spelled : (text : List ℕ) (segments : List (List ℕ)) → Spells text segments → IsTrue (fits segments) → IsTrue (is_key segments)
is_key-spelled text segments spells fit = is_key-from segments (record {
  some = Spells_some segments text spells;
  valid =
      Spells_valid segments text spells;
  fits = Fits-from segments fit;
})
