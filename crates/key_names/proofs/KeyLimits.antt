-- The limits of a key, and of a key with one segment more.
use Rattle.std.proofs.Common.{◌≡◌, ◌<◌, ◌≤◌, ◌+◌, ℕ, List, [], ◌∷◌, ◌++◌, Bool, true}
use Rattle.std.proofs.Common.{false, true≢false, ◌&&◌, nat_lt, nat_le, length, length-append, refl, sym, ◌∙◌, ap, arith}
use Rattle.std.specs.Prelude.{IsTrue}
use Rattle.std.specs.List.{list_all, sum_by}
use Rattle.std.proofs.lemmas.Bool.{and_parts, leb-true, le-leb}
use Rattle.std.proofs.lemmas.List.Folds.{list_all-append}
use Rattle.key_names.specs.declared.key_error.KeyFault.{KeyFault}
use Rattle.key_names.specs.declared.key_error.KeyFault.TheVariants.{TooMany, SegmentTooLong, TooLong}
use Rattle.key_names.specs.Segment.{is_segment, has_short_name, printed_segment}
use Rattle.key_names.specs.Key.{printed, fits, is_key}
use Rattle.key_names.specs.Faults.{Breaks, too_many, segment_too_long, too_long}
use Rattle.key_names.proofs.Segments.{both}
use Rattle.key_names.proofs.Printed.{length-printed-push, printed-empty}

-- what it is to fit
pub record Fits (segments : List (List ℕ)) : Type 0 where
  pub few : length segments ≤ 32
  pub short : IsTrue (list_all has_short_name segments)
  pub narrow : length (printed segments) ≤ 1024

-- the test tells it
pub Fits-from : (segments : List (List ℕ)) → IsTrue (fits segments) → Fits segments
Fits-from segments fit =
    let parts = and_parts (nat_le (length segments) 32 && list_all has_short_name segments) (nat_le (length (printed segments)) 1024) fit in
    let front = and_parts (nat_le (length segments) 32) (list_all has_short_name segments) parts.0 in
    record { few = leb-true (length segments) 32 front.0; short = front.1; narrow = leb-true (length (printed segments)) 1024 parts.1 }

-- and is true of it
pub fits-from : (segments : List (List ℕ)) → Fits segments → IsTrue (fits segments)
fits-from segments f =
    both (nat_le (length segments) 32 && list_all has_short_name segments) (nat_le (length (printed segments)) 1024)
    (both (nat_le (length segments) 32) (list_all has_short_name segments) (le-leb (length segments) 32 f.few) f.short)
    (le-leb (length (printed segments)) 1024 f.narrow)

-- no segments fit
pub none_fit : IsTrue (fits [])
none_fit = fits-from [] (record { few = omega arith; short = refl; narrow = omega (arith, ap length (printed-empty [] refl)) })

-- what it is to be a key
pub record IsKey (segments : List (List ℕ)) : Type 0 where
  pub some : 0 < length segments
  pub valid : IsTrue (list_all is_segment segments)
  pub fits : Fits segments

-- the test tells it
pub IsKey-from : (segments : List (List ℕ)) → IsTrue (is_key segments) → IsKey segments
IsKey-from segments key =
    let parts = and_parts (nat_lt 0 (length segments) && list_all is_segment segments) (fits segments) key in
    let front = and_parts (nat_lt 0 (length segments)) (list_all is_segment segments) parts.0 in
    record { some = leb-true 1 (length segments) front.0; valid = front.1; fits = Fits-from segments parts.1 }

-- and is true of it
pub is_key-from : (segments : List (List ℕ)) → IsKey segments → IsTrue (is_key segments)
is_key-from segments k =
    both (nat_lt 0 (length segments) && list_all is_segment segments) (fits segments)
    (both (nat_lt 0 (length segments)) (list_all is_segment segments) (le-leb 1 (length segments) k.some) k.valid)
    (fits-from segments k.fits)

-- segments that break a limit do not fit
pub breaks_none : {segments : List (List ℕ)} {kind : KeyFault} → Breaks segments kind → IsTrue (fits segments) → ⊥
breaks_none {segments} (too_many many) fit = omega (arith, (Fits-from segments fit).few)
breaks_none {segments} (segment_too_long few long) fit = true≢false (sym (Fits-from segments fit).short ∙ long)
breaks_none {segments} (too_long few short wide) fit = omega (arith, (Fits-from segments fit).narrow)

-- the last segment passes or fails the test, as the others pass
list_all-push : (p : List ℕ → Bool) (segments : List (List ℕ)) (segment : List ℕ) → IsTrue (list_all p segments)
    → list_all p (segments ++ segment ∷ []) ≡ p segment
list_all-push p segments segment all = list_all-append p segments (segment ∷ []) ∙ ap (λ t. t && (p segment && true)) all ∙ and_true (p segment)
  where
    and_true : (t : Bool) → (t && true) ≡ t
    and_true true = refl
    and_true false = refl

module _ (key : List (List ℕ)) (segment : List ℕ) where
  -- a child of a full key
  pub child_too_many : 32 ≤ length key → Breaks (key ++ segment ∷ []) TooMany
  child_too_many full = too_many (omega (arith, length-append key (segment ∷ [])))

  -- a child with too long a file name
  pub child_segment_too_long : IsTrue (fits key) → length key < 32 → has_short_name segment ≡ false → Breaks (key ++ segment ∷ []) SegmentTooLong
  child_segment_too_long fit few long =
      segment_too_long (omega (arith, length-append key (segment ∷ []))) (list_all-push has_short_name key segment (Fits-from key fit).short ∙ long)

  -- a child with too long a text
  pub child_too_long : IsTrue (fits key) → length key < 32 → IsTrue (has_short_name segment)
      → 1024 < sum_by (λ s. length (printed_segment s) + 1) key + length (printed_segment segment) → Breaks (key ++ segment ∷ []) TooLong
  child_too_long fit few short wide =
      too_long (omega (arith, length-append key (segment ∷ []))) (list_all-push has_short_name key segment (Fits-from key fit).short ∙ short)
      (omega (arith, length-printed-push key segment))

  -- a child within the limits
  pub child_fits : IsTrue (fits key) → length key < 32 → IsTrue (has_short_name segment) → sum_by (λ s. length (printed_segment s) + 1) key + length
      (printed_segment segment) ≤ 1024 → IsTrue (fits (key ++ segment ∷ []))
  child_fits fit few short narrow =
      fits-from (key ++ segment ∷ []) (record {
        few = omega (arith, length-append key (segment ∷ []));
        short = list_all-push has_short_name key segment (Fits-from key fit).short ∙ short;
        narrow = omega (arith, length-printed-push key segment);
      })

  -- a child that is within the limits, of a segment, is a key
  pub child_key : IsTrue (list_all is_segment key) → IsTrue (is_segment segment) → IsTrue (fits (key ++ segment ∷ [])) → IsTrue (is_key (key ++ segment ∷ []))
  child_key all valid fit =
      is_key-from (key ++ segment ∷ []) (record {
        some = omega (arith, length-append key (segment ∷ []));
        valid = list_all-push is_segment key segment all ∙ valid;
        fits = Fits-from (key ++ segment ∷ []) fit;
      })
