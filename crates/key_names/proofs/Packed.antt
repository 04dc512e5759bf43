-- Segments as one text with a zero byte between two: the parts of such a text, and one segment more.
use Rattle.std.proofs.Common.{arith, ◌≤◌, ◌<◌, ◌+◌, length-append, eq-eqb, eqb-true, length, ◌≡◌, ◌≢◌, ℕ, zero}
use Rattle.std.proofs.Common.{suc, true, ◌==◌, ◌&&◌, List, [], ◌∷◌, ◌++◌, refl, sym, ◌∙◌, ap}
use Rattle.std.specs.List.{onto_first, list_all, count_by}
use Rattle.std.proofs.lemmas.List.Splits.{slice_split-cons_yes, slice_split-cons_no, length-slice_split}
use Rattle.std.proofs.lemmas.List.Folds.{list_all-append}
use Rattle.std.proofs.lemmas.Bool.{true≢false, and_parts, ne_eqb}
use Rattle.key_names.specs.Packed.{parts, segments_of, longer, are_packed}
use Rattle.key_names.specs.Segment.{is_quotable, is_segment}
use Rattle.key_names.proofs.Segments.{both}

-- The parts of a text: the first, and the others.
pub record Parted (text : List ℕ) : Type 0 where
  pub first : List ℕ
  pub others : List (List ℕ)
  pub is : parts text ≡ first ∷ others

-- A zero byte at the front ends an empty part.
pub at_zero : (text : List ℕ) → parts (0 ∷ text) ≡ [] ∷ parts text
at_zero text = slice_split-cons_yes (λ b. b == 0) 0 text refl

-- Any other byte at the front belongs to the first part.
pub past : (n : ℕ) (text : List ℕ) → parts (suc n ∷ text) ≡ onto_first (suc n) (parts text)
past n text = slice_split-cons_no (λ b. b == 0) (suc n) text (ne_eqb (suc n) 0 (λ is. omega (arith, is)))

-- Each text has a first part.
pub parted : (text : List ℕ) → Parted text
parted [] = record { first = []; others = []; is = refl }
parted (zero ∷ text) = record { first = []; others = parts text; is = at_zero text }
parted (suc n ∷ text) =
    let p = parted text in
    record { first = suc n ∷ p.first; others = p.others; is = past n text ∙ ap (onto_first (suc n)) p.is }

-- So has one that begins with a byte of it.
pub parted_past : (n : ℕ) (text : List ℕ) (p : Parted text) → parts (suc n ∷ text) ≡ (suc n ∷ p.first) ∷ p.others
parted_past n text p = past n text ∙ ap (onto_first (suc n)) p.is

-- What comes after a zero byte are parts of their own.
pub parts-push : (text segment : List ℕ) → parts (text ++ 0 ∷ segment) ≡ parts text ++ parts segment
parts-push [] segment = at_zero segment
parts-push (zero ∷ text) segment = at_zero (text ++ 0 ∷ segment) ∙ ap (λ l. [] ∷ l) (parts-push text segment)
    ∙ sym (ap (λ l. l ++ parts segment) (at_zero text))
parts-push (suc n ∷ text) segment =
    let p = parted text in
    past n (text ++ 0 ∷ segment)
    ∙ ap (onto_first (suc n)) (parts-push text segment ∙ ap (λ l. l ++ parts segment) p.is)
    ∙ sym (ap (λ l. l ++ parts segment) (parted_past n text p))

-- Bytes that are allowed in quotes are one part.
whole : (bytes : List ℕ) → list_all is_quotable bytes ≡ true → parts bytes ≡ bytes ∷ []
whole [] good = refl
whole (zero ∷ bytes) good = absurd (true≢false (sym good))
whole (suc n ∷ bytes) good = past n bytes ∙ ap (onto_first (suc n)) (whole bytes (and_parts (is_quotable (suc n)) (list_all is_quotable bytes) good).1)

-- A longer text has that segment after the others.
pub segments_of-longer : (text segment : List ℕ) → is_segment segment ≡ true → segments_of (longer text segment) ≡ segments_of text ++ segment ∷ []
segments_of-longer [] [] valid = absurd (true≢false (sym valid))
segments_of-longer [] (b ∷ segment) valid = whole (b ∷ segment) (and_parts _ (list_all is_quotable (b ∷ segment)) valid).1
segments_of-longer (b ∷ text) segment valid =
    parts-push (b ∷ text) segment ∙ ap (λ l. parts (b ∷ text) ++ l) (whole segment (and_parts _ (list_all is_quotable segment) valid).1)

-- There is at most one part more than there are bytes.
length-parts : (text : List ℕ) → length (parts text) ≤ length text + 1
length-parts [] = omega arith
length-parts (zero ∷ text) = omega (arith, ap length (at_zero text), length-parts text)
length-parts (suc n ∷ text) =
    let p = parted text in
    omega (arith, ap length (parted_past n text p), ap length p.is, length-parts text)

-- So it is with segments.
pub length-segments_of : (text : List ℕ) → length (segments_of text) ≤ length text + 1
length-segments_of [] = omega arith
length-segments_of (b ∷ text) = length-parts (b ∷ text)

-- One segment more is counted.
pub are_packed-longer : (count : ℕ) (text segment : List ℕ) → are_packed count text ≡ true → is_segment segment ≡ true
    → are_packed (count + 1) (longer text segment) ≡ true
are_packed-longer count text segment packed valid =
    let both_hold = and_parts (count == length (segments_of text)) (list_all is_segment (segments_of text)) packed in
    let is = segments_of-longer text segment valid in
    both (count + 1 == length (segments_of (longer text segment))) (list_all is_segment (segments_of (longer text segment)))
    (eq-eqb _ _ (omega (arith, ap length is, length-append (segments_of text) (segment ∷ []), eqb-true count (length (segments_of text)) both_hold.0)))
    (ap (list_all is_segment) is ∙ list_all-append is_segment (segments_of text) (segment ∷ []) ∙ ap (λ t. t && (is_segment segment && true)) both_hold.1
    ∙ ap (λ t. t && true) valid)

-- The segments of a text that is not empty are its parts.
pub segments-parts : (text : List ℕ) → 0 < length (segments_of text) → segments_of text ≡ parts text
segments-parts [] some = absurd (omega (arith, some))
segments-parts (b ∷ text) some = refl

-- There is one segment more than there are zero bytes.
pub length-segments : (text : List ℕ) → length text ≢ 0 → length (segments_of text) ≡ count_by (λ b. b == 0) text + 1
length-segments [] some = absurd (some refl)
length-segments (b ∷ text) some = length-slice_split (λ x. x == 0) (b ∷ text)
