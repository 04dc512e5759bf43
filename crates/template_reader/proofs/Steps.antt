-- One text and one tag of a body.
use Rattle.std.proofs.Common.{◌≡◌, ℕ, zero, suc, ◌+◌, ◌<◌, ◌≤◌, Bool, true, false, List, [], ◌∷◌}
use Rattle.std.proofs.Common.{◌++◌, length, take, drop, Option, Some, None, refl, sym, ap, ◌∙◌, arith, if◌then◌else◌, true≢false}
use Rattle.std.specs.Prelude.{codes, ◌==◌}
use Rattle.std.proofs.Math.Bool.{and-false}
use Rattle.std.proofs.lemmas.List.{drop_all, length-drop, take-append-drop, length-take-le, length-take}
use Rattle.std.proofs.Math.Seq.{take-length}
use Rattle.template_reader.specs.Bytes.{begins, more}
use Rattle.template_reader.specs.Cut.{Piece, text, tag, unclosed, bytes_of, text_length, tag_length}
use Rattle.template_reader.specs.Cut.{through, through_dashes, through_unquoted, tag_piece, first_piece, pieces, cut}
use Rattle.template_reader.specs.Spot.{all_bytes}

-- What begins with `{{` has two bytes at least.
pub begins-two : (bytes : List ℕ) → begins bytes (codes "{{") ≡ true → 2 ≤ length bytes
begins-two [] e = absurd (cc)
begins-two (a ∷ []) e = absurd (true≢false (sym e ∙ and-false (123 == a)))
begins-two (a ∷ b ∷ bs) e = omega arith

-- The text goes to the end or to a tag.
abbrev Reaches : ℕ → List ℕ → Type 0
Reaches n bytes = (n ≤ length bytes) × (n < length bytes → begins (drop n bytes) (codes "{{") ≡ true)

-- A byte before a text makes it one longer.
reaches-more : (b : ℕ) (bs : List ℕ) (n : ℕ) → Reaches n bs → Reaches (1 + n) (b ∷ bs)
reaches-more b bs n r = let e : 1 + n ≡ suc n = omega arith in rw e (omega (arith, r.0), λ h. r.1 (omega arith))

-- It does where no tag begins at that byte.
reaches-if : (b : ℕ) (bs : List ℕ) (n : ℕ) (t : Bool) → begins (b ∷ bs) (codes "{{") ≡ t → Reaches n bs → Reaches (if t then 0 else 1 + n) (b ∷ bs)
reaches-if b bs n true e r = (omega arith, λ h. e)
reaches-if b bs n false e r = reaches-more b bs n r

-- A text goes up to the next `{{` and has none in it.
pub text-reaches : (bytes : List ℕ) → Reaches (text_length bytes) bytes
unfolding text_length
text-reaches [] = (omega arith, λ h. absurd (omega arith))
text-reaches (b ∷ bs) = reaches-if b bs (text_length bs) (begins (b ∷ bs) (codes "{{")) refl (text-reaches bs)

-- A text that is not empty has a byte before the first `{{`.
pub text-some : (bytes : List ℕ) → 0 < length bytes → begins bytes (codes "{{") ≡ false → 0 < text_length bytes
unfolding text_length
text-some [] h e = absurd (omega arith)
text-some (b ∷ bs) h e = rw e (omega arith)

-- No text is before a tag.
pub text-none : (bytes : List ℕ) → begins bytes (codes "{{") ≡ true → text_length bytes ≡ 0
unfolding text_length
text-none [] e = absurd (cc)
text-none (b ∷ bs) e = rw e refl

-- A tag has two bytes at least.
pub record Least (o : Option ℕ) : Type 0 where
  pub least : (n : ℕ) → o ≡ Some n → 2 ≤ n

-- A length after two bytes is two at least.
least-more : (k : ℕ) (o : Option ℕ) → 2 ≤ k → Least (more k o)
least-more k None h = record { least = λ n e. absurd (cc) }
least-more k (Some m) h = record { least = λ n e. let f : k + m ≡ n = (cc) in omega arith }

-- So is either of two that are.
least-if : (t : Bool) (o p : Option ℕ) → Least o → Least p → Least (if t then o else p)
least-if true o p h k = h
least-if false o p h k = k

-- A tag has two bytes at least.
pub tag-least : (bytes : List ℕ) → Least (tag_length bytes)
unfolding tag_length
tag-least bytes =
    let a = through_dashes (drop 5 bytes) in
    let b = through_dashes (drop 6 bytes) in
    let c = through (codes "}}") (drop 3 bytes) in
    let d = through (codes "}}") (drop 4 bytes) in
    let e = through_unquoted (codes "}}}") false (drop 3 bytes) in
    let f = through_unquoted (codes "}}") false (drop 2 bytes) in
    let five = least-if (begins bytes (codes "{{{")) (more 3 e) (more 2 f) (least-more 3 e (omega arith)) (least-more 2 f (omega arith)) in
    let four = least-if (begins bytes (codes "{{~!")) (more 4 d) _ (least-more 4 d (omega arith)) five in
    let three = least-if (begins bytes (codes "{{!")) (more 3 c) _ (least-more 3 c (omega arith)) four in
    let two = least-if (begins bytes (codes "{{~!--")) (more 6 b) _ (least-more 6 b (omega arith)) three in
    least-if (begins bytes (codes "{{!--")) (more 5 a) _ (least-more 5 a (omega arith)) two

-- Where no tag begins, the first piece is a text.
first-text : (bytes : List ℕ) → begins bytes (codes "{{") ≡ false → first_piece bytes ≡ text (take (text_length bytes) bytes)
unfolding first_piece
first-text bytes e = rw e refl

-- Where a tag begins, the first piece is the tag.
first-tag : (bytes : List ℕ) (o : Option ℕ) → begins bytes (codes "{{") ≡ true → tag_length bytes ≡ o → first_piece bytes ≡ tag_piece bytes o
unfolding first_piece
first-tag bytes o e f = rw (e, f) refl

-- A piece has a byte, and is at the start.
record IsFirst (bytes : List ℕ) (p : Piece) : Type 0 where
  some : 0 < length (bytes_of p)
  front : bytes_of p ≡ take (length (bytes_of p)) bytes

-- What is taken has the length that was taken of it.
take-self : (n : ℕ) (bytes : List ℕ) → take n bytes ≡ take (length (take n bytes)) bytes
take-self zero bytes = refl
take-self (suc n) [] = refl
take-self (suc n) (b ∷ bs) = ap (λ (l : List ℕ). b ∷ l) (take-self n bs)

-- Some bytes taken of some bytes are some.
taken-some : (n : ℕ) (bytes : List ℕ) → 0 < n → 0 < length bytes → 0 < length (take n bytes)
taken-some n bytes h k = omega (arith, length-take n bytes)

-- A tag is taken from the start and has a byte at least.
is_first-tag : (bytes : List ℕ) (o : Option ℕ) → 0 < length bytes → Least o → IsFirst bytes (tag_piece bytes o)
is_first-tag bytes None h l = record { some = h; front = sym (take-length bytes) }
is_first-tag bytes (Some n) h l = record { some = taken-some n bytes (omega (arith, l.least n refl)) h; front = take-self n bytes }

-- So is the first piece, whichever it is.
is_first : (bytes : List ℕ) (t : Bool) → 0 < length bytes → begins bytes (codes "{{") ≡ t → IsFirst bytes (first_piece bytes)
is_first bytes true h e = rw (first-tag bytes (tag_length bytes) e refl) (is_first-tag bytes (tag_length bytes) h (tag-least bytes))
is_first bytes false h e = rw (first-text bytes e) (record {
  some = taken-some (text_length bytes) bytes (text-some bytes h e) h;
  front =
      take-self (text_length bytes) bytes;
})

-- The first piece is taken from the start and has a byte at least.
first_is : (bytes : List ℕ) → 0 < length bytes → IsFirst bytes (first_piece bytes)
first_is bytes h = is_first bytes (begins bytes (codes "{{")) h refl

-- After the first piece there are fewer bytes.
rest_length : (b : ℕ) (bs : List ℕ) (n : ℕ) → length (b ∷ bs) ≤ suc n → length (drop (length (bytes_of (first_piece (b ∷ bs)))) (b ∷ bs)) ≤ n
rest_length b bs n h =
    let p = (first_is (b ∷ bs) (omega arith)).some in
    omega (arith, p, length-drop (length (bytes_of (first_piece (b ∷ bs)))) (b ∷ bs))

-- More pieces than bytes are none.
same_pieces : (m n : ℕ) (bytes : List ℕ) → length bytes ≤ m → length bytes ≤ n → pieces m bytes ≡ pieces n bytes
unfolding pieces
same_pieces zero zero bytes h k = refl
same_pieces zero (suc n) [] h k = refl
same_pieces zero (suc n) (b ∷ bs) h k = absurd (omega arith)
same_pieces (suc m) zero [] h k = refl
same_pieces (suc m) zero (b ∷ bs) h k = absurd (omega arith)
same_pieces (suc m) (suc n) [] h k = refl
same_pieces (suc m) (suc n) (b ∷ bs) h k =
    ap (λ (ps : List Piece). first_piece (b ∷ bs) ∷ ps) (same_pieces m n (drop (length (bytes_of (first_piece (b ∷ bs)))) (b ∷ bs)) (rest_length b bs m h)
    (rest_length b bs n k))

-- The pieces are the first one, and those of what is after it.
pub cut-first : (bytes : List ℕ) → 0 < length bytes → cut bytes ≡ first_piece bytes ∷ cut (drop (length (bytes_of (first_piece bytes))) bytes)
unfolding pieces cut
cut-first [] h = absurd (omega arith)
cut-first (b ∷ bs) h =
    let rest = drop (length (bytes_of (first_piece (b ∷ bs)))) (b ∷ bs) in
    ap (λ (ps : List Piece). first_piece (b ∷ bs) ∷ ps) (same_pieces (length bs) (length rest) rest (rest_length b bs (length bs) (omega arith)) (omega arith))

-- The pieces are the bytes.
bytes-pieces : (n : ℕ) (bytes : List ℕ) → length bytes ≤ n → all_bytes (pieces n bytes) ≡ bytes
unfolding pieces
bytes-pieces zero [] h = refl
bytes-pieces zero (b ∷ bs) h = absurd (omega arith)
bytes-pieces (suc n) [] h = refl
bytes-pieces (suc n) (b ∷ bs) h =
    let p = first_piece (b ∷ bs) in
    let rest = drop (length (bytes_of p)) (b ∷ bs) in
    ap (λ (l : List ℕ). bytes_of p ++ l) (bytes-pieces n rest (rest_length b bs n h))
    ∙ ap (λ (l : List ℕ). l ++ rest) (first_is (b ∷ bs) (omega arith)).front ∙ take-append-drop (length (bytes_of p)) (b ∷ bs)

-- The pieces have all the bytes, in order.
pub bytes-cut : (bytes : List ℕ) → all_bytes (cut bytes) ≡ bytes
unfolding cut
bytes-cut bytes = bytes-pieces (length bytes) bytes (omega arith)

-- No bytes have no pieces.
pub cut-none : cut [] ≡ []
unfolding cut pieces
cut-none = refl

-- Bytes that begin with no tag begin with a text.
pub cut-text : (bytes : List ℕ) → 0 < length bytes → begins bytes (codes "{{") ≡ false
    → cut bytes ≡ text (take (text_length bytes) bytes) ∷ cut (drop (text_length bytes) bytes)
cut-text bytes h e =
    let p = first-text bytes e in
    let n : length (take (text_length bytes) bytes) ≡ text_length bytes = length-take-le (text_length bytes) bytes (text-reaches bytes).0 in
    cut-first bytes h ∙ ap (λ (p : Piece). p ∷ cut (drop (length (bytes_of p)) bytes)) p
    ∙ ap (λ (k : ℕ). text (take (text_length bytes) bytes) ∷ cut (drop k bytes)) n

-- Bytes that begin with a tag and its end begin with that piece.
pub cut-tag : (bytes : List ℕ) (n : ℕ) → begins bytes (codes "{{") ≡ true → tag_length bytes ≡ Some n → n ≤ length bytes
    → cut bytes ≡ tag (take n bytes) ∷ cut (drop n bytes)
cut-tag bytes n e f h =
    let p = first-tag bytes (Some n) e f in
    let k : length (take n bytes) ≡ n = length-take-le n bytes h in
    cut-first bytes (omega (arith, begins-two bytes e)) ∙ ap (λ (p : Piece). p ∷ cut (drop (length (bytes_of p)) bytes)) p
    ∙ ap (λ (k : ℕ). tag (take n bytes) ∷ cut (drop k bytes)) k

-- Bytes that begin with a tag without an end are one piece.
pub cut-unclosed : (bytes : List ℕ) → begins bytes (codes "{{") ≡ true → tag_length bytes ≡ None → cut bytes ≡ unclosed bytes ∷ []
cut-unclosed bytes e f =
    let p = first-tag bytes None e f in
    cut-first bytes (omega (arith, begins-two bytes e)) ∙ ap (λ (p : Piece). p ∷ cut (drop (length (bytes_of p)) bytes)) p
    ∙ ap (λ (l : List ℕ). unclosed bytes ∷ cut l) (drop_all (length bytes) bytes (omega arith)) ∙ ap (λ (ps : List Piece). unclosed bytes ∷ ps) cut-none
