-- The places of broken limits, with one segment more on the way through a text.
use Rattle.std.proofs.Common.{eq-eqb, ◌≡◌, ◌≢◌, ◌≤◌, ℕ, List, [], ◌∷◌, ◌++◌, Bool, true, false, ◌&&◌, ◌||◌, ◌==◌}
use Rattle.std.proofs.Common.{if◌then◌else◌, length, length-append, length-take, take, drop, refl, sym, ◌∙◌, ap, arith, inl, inr, Option, Some, None}
use Rattle.std.specs.Prelude.{IsTrue, is_some, MatchOption}
use Rattle.std.specs.List.{list_all}
use Rattle.std.proofs.lemmas.Bool.{cases_eq, ne_eqb}
use Rattle.std.proofs.lemmas.List.{take-append-drop, append_assoc}
use Rattle.std.proofs.lemmas.List.Folds.{list_all-append}
use Rattle.key_names.specs.declared.key_error.KeyFault.TheVariants.{TooMany, SegmentTooLong}
use Rattle.key_names.specs.Segment.{has_short_name}
use Rattle.key_names.specs.Joined.{Leads}
use Rattle.key_names.specs.Spelling.{IsSpelling}
use Rattle.key_names.specs.Faults.{BeginsAt, LimitAt, at_surplus, at_overlong}
use Rattle.key_names.specs.Reading.{AreMarked}

-- where what was read leads to, the next segment begins
pub begins_here : (text : List ℕ) (segments : List (List ℕ)) (start : ℕ) → start ≤ length text → Leads IsSpelling 46 (take start text) segments
    → BeginsAt text segments start
begins_here text segments start within leads = record {
  front = take start text;
  rest = drop start text;
  text_is = sym (take-append-drop start text);
  leads = leads;
  place_is = omega (arith, length-take start text);
}

-- no segments break no limit
pub AreMarked-none : (text : List ℕ) (segments : List (List ℕ)) (surplus overlong : Option ℕ) → segments ≡ [] → surplus ≡ None → overlong ≡ None
    → AreMarked text segments surplus overlong
AreMarked-none text segments surplus overlong none no_surplus no_overlong = rw (none, no_surplus, no_overlong) (record { many = omega arith; long = refl })

module _ (text : List ℕ) (segments : List (List ℕ)) (segment : List ℕ) (start : ℕ) (begins : BeginsAt text segments start) where
  -- the place of the 33rd segment, with one segment more that is not it
  many_more : (surplus : Option ℕ) → MatchOption surplus (length segments ≤ 32) (LimitAt text segments TooMany) → length segments ≢ 32
      → MatchOption surplus (length (segments ++ segment ∷ []) ≤ 32) (LimitAt text (segments ++ segment ∷ []) TooMany)
  many_more None few other = omega (arith, few, other, length-append segments (segment ∷ []))
  many_more (Some place) (at_surplus first next others place' is long begins') other =
      at_surplus first next (others ++ segment ∷ []) place (ap (λ s. s ++ segment ∷ []) is ∙ append_assoc first (next ∷ others) (segment ∷ [])) long begins'

  -- the place of the first segment with too long a file name, with one segment more
  long_more : (overlong : Option ℕ) (short : Bool) → has_short_name segment ≡ short → MatchOption overlong (IsTrue (list_all has_short_name segments))
      (LimitAt text segments SegmentTooLong) → MatchOption (if is_some overlong || short then overlong else Some start)
      (IsTrue (list_all has_short_name (segments ++ segment ∷ []))) (LimitAt text (segments ++ segment ∷ []) SegmentTooLong)
  long_more None true short all = list_all-append has_short_name segments (segment ∷ []) ∙ ap (λ t. t && (has_short_name segment && true)) all
      ∙ ap (λ t. t && true) short
  long_more None false long all = at_overlong segments segment [] start refl all long begins
  long_more (Some place) short is (at_overlong first next others place' parts all long begins') =
      at_overlong first next (others ++ segment ∷ []) place (ap (λ s. s ++ segment ∷ []) parts ∙ append_assoc first (next ∷ others) (segment ∷ [])) all long
      begins'

  -- the places with one segment more
  pub AreMarked-push : (surplus overlong : Option ℕ) → AreMarked text segments surplus overlong
      → AreMarked text (segments ++ segment ∷ []) (if length segments == 32 then Some start else surplus)
      (if is_some overlong || has_short_name segment then overlong else Some start)
  AreMarked-push surplus overlong marked = record {
    many =
        elim (cases_eq (length segments) 32) [
          | inl full ↦ rw (eq-eqb (length segments) 32 full) (at_surplus segments segment [] start refl full begins)
          | inr other ↦ rw (ne_eqb (length segments) 32 other) (many_more surplus marked.many other)
        ];
    long = long_more overlong (has_short_name segment) refl marked.long;
  }
