-- A segment, a child and a list of segments have one fault at most, and none where they are in order.
use Rattle.std.proofs.Common.{◌≡◌, ◌≢◌, ℕ, List, [], ◌∷◌, ◌++◌, Bool, true, false, true≢false, nat_lt, length, length-append, refl, sym, ◌∙◌, ap, arith, inr}
use Rattle.std.specs.Prelude.{IsTrue}
use Rattle.std.specs.List.{list_all, prefix_len}
use Rattle.std.proofs.lemmas.Bool.{and_parts, leb-true}
use Rattle.std.proofs.lemmas.List.Folds.{list_all-append}
use Rattle.key_names.specs.declared.key_error.KeyError.{KeyError}
use Rattle.key_names.specs.declared.key_error.KeyFault.{KeyFault}
use Rattle.key_names.specs.Segment.{is_quotable, is_segment}
use Rattle.key_names.specs.Key.{fits, is_key}
use Rattle.key_names.specs.Faults.{SegmentFault, no_bytes, bad_byte, Breaks, too_many, segment_too_long, too_long, RefusesChild, segment_fault, child_limit}
use Rattle.key_names.proofs.Runs.{prefix_len-run}
use Rattle.key_names.proofs.KeyLimits.{breaks_none, IsKey-from, fits-from}

-- segments break one limit first
pub one_limit : {segments : List (List ℕ)} {a b : KeyFault} → Breaks segments a → Breaks segments b → a ≡ b
one_limit (too_many many) (too_many more) = refl
one_limit (too_many many) (segment_too_long few long) = absurd (omega arith)
one_limit (too_many many) (too_long few short wide) = absurd (omega arith)
one_limit (segment_too_long few long) (too_many many) = absurd (omega arith)
one_limit (segment_too_long few long) (segment_too_long few' long') = refl
one_limit (segment_too_long few long) (too_long few' short wide) = absurd (true≢false (sym short ∙ long))
one_limit (too_long few short wide) (too_many many) = absurd (omega arith)
one_limit (too_long few short wide) (segment_too_long few' long) = absurd (true≢false (sym short ∙ long))
one_limit (too_long few short wide) (too_long few' short' wide') = refl

-- the first bad byte comes after the run of bytes that are allowed in quotes
bad_place : (bytes front : List ℕ) (b : ℕ) (rest : List ℕ) → bytes ≡ front ++ b ∷ rest → IsTrue (list_all is_quotable front) → is_quotable b ≡ false
    → length front ≡ prefix_len is_quotable bytes
bad_place bytes front b rest is good bad = sym (ap (prefix_len is_quotable) is ∙ prefix_len-run is_quotable front (b ∷ rest) good (inr (b, rest, refl, bad)))

-- what has a byte is not empty
some_bytes : (front : List ℕ) (b : ℕ) (rest : List ℕ) → [] ≢ front ++ b ∷ rest
some_bytes front b rest e = let lengths = ap length e in omega (arith, lengths, length-append front (b ∷ rest))

-- bytes have one fault as a segment
one_segment_fault : {bytes : List ℕ} {a b : KeyFault} {p q : ℕ} → SegmentFault bytes a p → SegmentFault bytes b q → (a ≡ b) × (p ≡ q)
one_segment_fault (no_bytes none) (no_bytes none') = (refl, refl)
one_segment_fault (no_bytes none) (bad_byte front b rest is good bad) = absurd (some_bytes front b rest (sym none ∙ is))
one_segment_fault (bad_byte front b rest is good bad) (no_bytes none) = absurd (some_bytes front b rest (sym none ∙ is))
one_segment_fault {bytes} (bad_byte front b rest is good bad) (bad_byte front' b' rest' is' good' bad') =
    (refl, bad_place bytes front b rest is good bad ∙ sym (bad_place bytes front' b' rest' is' good' bad'))

-- a segment has no fault
no_segment_fault : {bytes : List ℕ} {kind : KeyFault} {place : ℕ} → SegmentFault bytes kind place → is_segment bytes ≢ true
no_segment_fault {bytes} (no_bytes none) valid = omega (
  arith,
  ap length none,
  leb-true 1 (length bytes)
      (and_parts (nat_lt 0 (length bytes)) (list_all is_quotable bytes) valid).0,
)
no_segment_fault {bytes} (bad_byte front b rest is good bad) valid =
    let all = (and_parts (nat_lt 0 (length bytes)) (list_all is_quotable bytes) valid).1 in
    let both = and_parts (list_all is_quotable front) (list_all is_quotable (b ∷ rest))
    (sym (list_all-append is_quotable front (b ∷ rest)) ∙ ap (list_all is_quotable) (sym is) ∙ all) in
    true≢false (sym (and_parts (is_quotable b) (list_all is_quotable rest) both.1).0 ∙ bad)

-- a child has one fault
one_child_fault : {key : List (List ℕ)} {segment : List ℕ} {a b : KeyFault} {p q : ℕ} → RefusesChild key segment a p → RefusesChild key segment b q
    → (a ≡ b) × (p ≡ q)
one_child_fault (segment_fault a p f) (segment_fault b q g) = one_segment_fault f g
one_child_fault (segment_fault a p f) (child_limit b valid breaks) = absurd (no_segment_fault f valid)
one_child_fault (child_limit a valid breaks) (segment_fault b q g) = absurd (no_segment_fault g valid)
one_child_fault (child_limit a valid breaks) (child_limit b valid' breaks') = (one_limit breaks breaks', refl)

-- an error is its kind and its place
error_is : (e : KeyError) (kind : KeyFault) (place : ℕ) → (e.kind ≡ kind) × (e.place ≡ place) → e ≡ record { kind = kind; place = place }
error_is e kind place both = ap (λ k. record { kind = k; place = e.place }) both.0 ∙ ap (λ p. record { kind = kind; place = p }) both.1

-- the fault that was found is any fault that there is
pub fault_is : (key : List (List ℕ)) (segment : List ℕ) (e : KeyError) → RefusesChild key segment e.kind e.place → (kind : KeyFault) (place : ℕ)
    → RefusesChild key segment kind place → e ≡ record { kind = kind; place = place }
fault_is key segment e found kind place f = error_is e kind place (one_child_fault found f)

-- a child of a segment within the limits has no fault
pub no_child_fault : (key : List (List ℕ)) (segment : List ℕ) → IsTrue (is_segment segment) × IsTrue (fits (key ++ segment ∷ []))
    → (kind : KeyFault) (place : ℕ) → RefusesChild key segment kind place → ⊥
no_child_fault key segment fine kind place (segment_fault kind' place' f) = no_segment_fault f fine.0
no_child_fault key segment fine kind place (child_limit kind' valid' breaks) = breaks_none breaks fine.1

-- what is refused as a child is no key
pub refused_no_key : (key : List (List ℕ)) (segment : List ℕ) (kind : KeyFault) (place : ℕ) → RefusesChild key segment kind place
    → is_key (key ++ segment ∷ []) ≡ false
refused_no_key key segment kind place fault = by (is_key (key ++ segment ∷ [])) refl
  where
    by : (b : Bool) → is_key (key ++ segment ∷ []) ≡ b → is_key (key ++ segment ∷ []) ≡ false
    by false is = is
    by true is =
        let k = IsKey-from (key ++ segment ∷ []) is in
        let both = and_parts (list_all is_segment key) (list_all is_segment (segment ∷ [])) (sym (list_all-append is_segment key (segment ∷ [])) ∙ k.valid) in
        absurd (no_child_fault key segment ((and_parts (is_segment segment) true both.1).0, fits-from (key ++ segment ∷ []) k.fits) kind place fault)
