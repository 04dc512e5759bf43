-- What a segment is, by its longest run of bytes that are allowed in quotes.
use Rattle.std.proofs.Common.{◌≡◌, ◌<◌, ◌≤◌, ℕ, List, [], ◌∷◌, ◌++◌, Bool, true, false, ◌&&◌}
use Rattle.std.proofs.Common.{nat_lt, length, take, drop, length-drop, refl, sym, ◌∙◌, ap, subst, arith, inl, inr}
use Rattle.std.specs.Prelude.{IsTrue}
use Rattle.std.specs.List.{list_all}
use Rattle.std.proofs.lemmas.List.{take_all, take-append-drop}
use Rattle.std.proofs.lemmas.Bool.{le-leb, and_parts}
use Rattle.std.proofs.lemmas.Bool.Decides.{nat_tests}
use Rattle.key_names.specs.declared.key_error.KeyFault.TheVariants.{BadByte}
use Rattle.key_names.specs.Segment.{is_bare, is_quotable, is_segment}
use Rattle.key_names.specs.Faults.{SegmentFault, bad_byte}
use Rattle.key_names.proofs.Runs.{Stops, IsRun}

-- both tests hold
pub both : (a b : Bool) → IsTrue a → IsTrue b → IsTrue (a && b)
both true true p q = refl
both true false p q = q
both false b p q = p

-- no bytes, no list
pub empty_list : {A : Type 0} (s : List A) → length s ≡ 0 → s ≡ []
empty_list [] none = refl
empty_list (x ∷ s) some = absurd (omega arith)

-- some bytes that are allowed in quotes are a segment
pub is_segment-from : (bytes : List ℕ) → 0 < length bytes → IsTrue (list_all is_quotable bytes) → IsTrue (is_segment bytes)
is_segment-from bytes some good = both (nat_lt 0 (length bytes)) (list_all is_quotable bytes) (le-leb 1 (length bytes) some) good

-- a run that ends early ends at a bad byte
pub bad_at_run : (bytes : List ℕ) (n : ℕ) → IsRun is_quotable bytes n → n < length bytes → SegmentFault bytes BadByte n
bad_at_run bytes n run within = subst (λ k. SegmentFault bytes BadByte k) run.long (at_stop run.stops)
  where
    at_stop : Stops is_quotable (drop n bytes) → SegmentFault bytes BadByte (length (take n bytes))
    at_stop (inl none) = absurd (omega (arith, length-drop n bytes, ap length none))
    at_stop (inr (b, rest, rest_is, fails)) = bad_byte (take n bytes) b rest (sym (take-append-drop n bytes) ∙ ap (λ s. take n bytes ++ s) rest_is) run.all
        fails

-- bytes that are one run are a segment, if there are some
pub segment_at_run : (bytes : List ℕ) (n : ℕ) → IsRun is_quotable bytes n → length bytes ≤ n → 0 < length bytes → IsTrue (is_segment bytes)
segment_at_run bytes n run whole some = is_segment-from bytes some (subst (λ s. IsTrue (list_all is_quotable s)) (take_all n bytes whole) run.all)

-- a bare character is allowed in quotes
bare_quotable : (b : ℕ) → IsTrue (is_bare b) → IsTrue (is_quotable b)
bare_quotable b bare = grind (arith, nat_tests)

-- so may bare characters
pub bare_all_quotable : (s : List ℕ) → IsTrue (list_all is_bare s) → IsTrue (list_all is_quotable s)
bare_all_quotable [] bare = refl
bare_all_quotable (b ∷ s) bare =
    let parts = and_parts (is_bare b) (list_all is_bare s) bare in
    both (is_quotable b) (list_all is_quotable s) (bare_quotable b parts.0) (bare_all_quotable s parts.1)
