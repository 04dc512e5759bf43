-- The file name of a segment is its percent-encoding, and decoding gives the segment back.
use Rattle.std.proofs.Common.{Result, Ok, Err, Option, Some, None, ◌≤◌, length, length-append, ◌≡◌, ℕ, zero, suc, ◌<◌, List, []}
use Rattle.std.proofs.Common.{◌∷◌, ◌++◌, Bool, true, false, not, ◌&&◌, if◌then◌else◌, get_or, refl, sym, ap, ◌∙◌, arith, inl, inr, nat_le}
use Rattle.std.specs.Prelude.{IfOk, IfSome}
use Rattle.std.proofs.lemmas.Bool.{and_parts, leb-true, cases_eq}
use Rattle.std.proofs.lemmas.List.Elements.{All-from_get_or}
use Rattle.std.proofs.lemmas.List.Concat.{length-flat_map}
use Rattle.std.specs.List.{list_all, flat_map, sum_by}
use Rattle.percent_encoding.specs.AsciiSet.{contains, should_percent_encode}
use Rattle.percent_encoding.specs.Percent.{percent_encode, percent_encode_byte, encode_byte, percent_decode}
use Rattle.percent_encoding.proofs.PercentLemmas.{round_trip, IsByte}
use Rattle.key_names.specs.declared.file_names.TheConstants.{ESCAPED}
use Rattle.key_names.specs.Segment.{is_bare, is_quotable, glyph, file_name, IsFileNameOf}

abbrev agree : Bool → Bool → Bool
agree true true = true
agree false false = true
agree true false = false
agree false true = false

-- tests that agree are equal
agree-true : (a b : Bool) → agree a b ≡ true → a ≡ b
agree-true true true h = refl
agree-true false false h = refl
agree-true true false h = sym h
agree-true false true h = h

-- the encoder's set agrees with the bare characters at every number below this
abbrev agree_below : ℕ → Bool
agree_below zero = true
agree_below (suc n) = agree (should_percent_encode ESCAPED n) (not (is_bare n)) && agree_below n

-- the two agree at every byte
all_agree : agree_below 256 ≡ true
unfolding should_percent_encode
all_agree = refl

-- so they agree at this one
agree_at : (n : ℕ) → agree_below n ≡ true → (b : ℕ) → b < n → should_percent_encode ESCAPED b ≡ not (is_bare b)
agree_at zero e b h = absurd (omega arith)
agree_at (suc n) e b h =
    let p = and_parts _ _ e in
    elim (cases_eq b n) [ inl same ↦ rw same (agree-true _ _ p.0) | inr other ↦ agree_at n p.1 b (omega arith) ]

-- a choice by `not b` is the choice by b the other way about
other_way : {X : Type 0} (b : Bool) (x y : X) → (if not b then x else y) ≡ (if b then y else x)
other_way true x y = refl
other_way false x y = refl

-- the encoder writes each byte as a file name does
same_glyph : (b : ℕ) → b < 256 → encode_byte ESCAPED b ≡ glyph b
same_glyph b h = ap (λ t. if t then percent_encode_byte b else b ∷ []) (agree_at 256 all_agree b h) ∙ other_way (is_bare b) _ _

-- the encoder writes the file name
pub file_name-percent_encode : (s : List ℕ) → ((i : ℕ) → get_or s i 0 < 256) → percent_encode ESCAPED s ≡ file_name s
unfolding percent_encode file_name
file_name-percent_encode [] h = refl
file_name-percent_encode (b ∷ s) h = rw (same_glyph b (h 0)) (ap (λ l. glyph b ++ l) (file_name-percent_encode s (λ i. h (suc i))))

-- what is allowed in quotes are bytes
small_quotable : (s : List ℕ) → list_all is_quotable s ≡ true → (i : ℕ) → get_or s i 0 < 256
small_quotable [] h i = omega arith
small_quotable (b ∷ s) h zero = let p = and_parts (is_quotable b) _ h in let q = and_parts (nat_le 32 b && nat_le b 126) _ p.0 in
    omega (arith, leb-true b 126 (and_parts _ _ q.0).1)
small_quotable (b ∷ s) h (suc i) = small_quotable s (and_parts (is_quotable b) _ h).1 i

-- `%` itself is escaped
has_percent : contains ESCAPED 37 ≡ true
has_percent = refl

-- a file name decodes to its segment
pub percent_decode-file_name : (name s : List ℕ) → IsFileNameOf name s → percent_decode name ≡ s
percent_decode-file_name name s n =
    let small = small_quotable s (and_parts _ _ n.valid).1 in
    ap percent_decode (n.spelled ∙ sym (file_name-percent_encode s small)) ∙ round_trip ESCAPED s has_percent (All-from_get_or IsByte s 0 (λ i within. small i))

-- a file name is as long as its glyphs together
pub length-file_name : (s : List ℕ) → length (file_name s) ≡ sum_by (λ b. length (glyph b)) s
unfolding file_name
length-file_name s = length-flat_map glyph s

-- a glyph has a byte or more
some_glyph : (b : ℕ) → 0 < length (glyph b)
unfolding percent_encode_byte
some_glyph b = elim (is_bare b) as (λ t. 0 < length (if t then b ∷ [] else percent_encode_byte b)) [ true ↦ omega arith | false ↦ omega arith ]

-- an escape has three bytes
pub length-percent_encode_byte : (b : ℕ) → length (percent_encode_byte b) ≡ 3
unfolding percent_encode_byte
length-percent_encode_byte b = refl

-- a file name is no shorter than its segment
pub length-le-file_name : (s : List ℕ) → length s ≤ length (file_name s)
unfolding file_name
length-le-file_name [] = omega arith
length-le-file_name (b ∷ s) = omega (arith, length-append (glyph b) (flat_map glyph s), some_glyph b, length-le-file_name s)

pub ruleset lengths = (length-file_name, length-le-file_name, length-percent_encode_byte)

-- a call that answers a segment of this name, or that there is none, answers the one segment
pub segment_read :
    {E : Type 0} (name : List ℕ) (result : Result (Option (List ℕ)) E)
    → IfOk result (λ o. IfSome o (IsFileNameOf name)) → (result ≡ Ok None → (segment : List ℕ) → ¬ IsFileNameOf name segment)
    → (segment : List ℕ) → IsFileNameOf name segment → IfOk result (λ o. o ≡ Some segment)
segment_read name (Ok (Some read)) some none segment is = ap Some (sym (percent_decode-file_name name read some) ∙ percent_decode-file_name name segment is)
segment_read name (Ok None) some none segment is = absurd (none refl segment is)
segment_read name (Err e) some none segment is = tt
