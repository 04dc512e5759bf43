-- What std's `parse` reads as an integer, and a tag as one.
use Rattle.std.proofs.Common.{◌≡◌, ℕ, zero, suc, ◌<◌, Bool, true, false, List, [], ◌∷◌}
use Rattle.std.proofs.Common.{length, drop, Option, Some, None, refl, sym, ap, ◌∙◌, arith, subst, if◌then◌else◌}
use Rattle.std.specs.Prelude.{ℤ, pos, codes, ◌&&◌, ◌==◌, Result, Ok, Err, cond}
use lib.IntN.{negsuc}
use mir.Syntax.{w64}
use mir.Val.{SFits}
use Rattle.std.specs.Result.{result_ok}
use Rattle.std.specs.Char.{is_ascii_digit}
use Rattle.std.specs.Str.{IsUtf8, IsAscii, all_ascii_digits}
use Rattle.std.specs.Str.Parse.{IsNumeral, ParsesSigned, without_leading_sign, signed_digits_value, digits_value}
use Rattle.std.proofs.lemmas.Bool.{and_parts, and_from, eqb-true, ltb-true, lt-ltb}
use Rattle.std.proofs.lemmas.Bool.Decides.{nat_tests}
use Rattle.std.proofs.lemmas.Str.{IsUtf8-from_ascii}
use Rattle.std.proofs.lemmas.Str.Parse.{IsNumeralModel, numerals_by_value, tells_all_ascii_digits}
use Rattle.template_reader.specs.Bytes.{begins}
use Rattle.template_reader.specs.Words.{has_bytes}
use Rattle.template_reader.specs.Says.{without_minus, fits_i64, integer_of}

-- Digits alone, with their decimal value, are a model of numerals.
own : IsNumeralModel (λ ds. all_ascii_digits ds ≡ true) (digits_value 10)
own = numerals_by_value (λ ds. all_ascii_digits ds ≡ true) tells_all_ascii_digits

-- The test for an integer.
abbrev is_integer : List ℕ → Bool
is_integer word = (has_bytes (without_minus word) && all_ascii_digits (without_minus word)) && fits_i64 (signed_digits_value 10 word)

-- The test decides what integer the word is.
read-as : (word : List ℕ) (t : Bool) → is_integer word ≡ t → (if t then Some (signed_digits_value 10 word) else None) ≡ integer_of word
unfolding integer_of
read-as word t e = ap (λ (t : Bool). if t then Some (signed_digits_value 10 word) else None) (sym e)

-- A value that passes the test is within i64.
fits-from : (z : ℤ) → fits_i64 z ≡ true → SFits w64 z
fits-from (pos n) e = record { sfits = ltb-true n 9223372036854775808 e }
fits-from (negsuc n) e = record { sfits = ltb-true n 9223372036854775808 e }

-- A value within i64 passes the test.
fits-to : (z : ℤ) → SFits w64 z → fits_i64 z ≡ true
fits-to (pos n) f = lt-ltb n 9223372036854775808 f.sfits
fits-to (negsuc n) f = lt-ltb n 9223372036854775808 f.sfits

-- What has bytes has a length above 0.
bytes-some : (ds : List ℕ) → has_bytes ds ≡ true → 0 < length ds
bytes-some [] e = absurd (cc)
bytes-some (d ∷ ds) e = omega arith

-- What has a length above 0 has bytes.
some-bytes : (ds : List ℕ) → 0 < length ds → has_bytes ds ≡ true
some-bytes [] h = absurd (omega arith)
some-bytes (d ∷ ds) h = refl

-- A plus, which no integer begins with.
plus-false : (word : List ℕ) → begins word (codes "+") ≡ true → is_integer word ≡ false
plus-false [] e = absurd (cc)
plus-false (b ∷ bs) e =
    let P : ℕ → Type 0 = λ b. is_integer (b ∷ bs) ≡ false in
    subst P (eqb-true 43 b (and_parts (43 == b) true e).0) refl

-- A word that begins with `+` is no integer.
pub plus_none : (word : List ℕ) → begins word (codes "+") ≡ true → None ≡ integer_of word
plus_none word e = read-as word false (plus-false word e)

-- Without a plus, the digits are after the minus alone.
sign-minus : (word : List ℕ) → begins word (codes "+") ≡ false → without_leading_sign word ≡ without_minus word
sign-minus [] e = refl
sign-minus (b ∷ bs) e =
    let other : (b == 43) ≡ false = grind (arith, nat_tests) in
    ap (λ (t : Bool). cond (b == 45) bs (drop (cond t 1 0) (b ∷ bs))) other

-- The test, and what `parse` asks.
record Means (word : List ℕ) : Type 0 where
  numeral : IsNumeral 10 (without_leading_sign word)
  fits : SFits w64 (signed_digits_value 10 word)

-- A word without `+` that passes the test means an integer to the parse.
means-from : (word : List ℕ) → begins word (codes "+") ≡ false → is_integer word ≡ true → Means word
means-from word plain e =
    let p = and_parts (has_bytes (without_minus word) && all_ascii_digits (without_minus word)) (fits_i64 (signed_digits_value 10 word)) e in
    let q = and_parts (has_bytes (without_minus word)) (all_ascii_digits (without_minus word)) p.0 in
    let P : List ℕ → Type 0 = λ ds. IsNumeral 10 ds in
    record {
      numeral = subst P (sym (sign-minus word plain)) (bytes-some (without_minus word) q.0, own.to (without_minus word) q.1);
      fits = fits-from (signed_digits_value 10 word) p.1;
    }

-- A word without `+` that means an integer to the parse passes the test.
means-to : (word : List ℕ) → begins word (codes "+") ≡ false → Means word → is_integer word ≡ true
means-to word plain m =
    let P : List ℕ → Type 0 = λ ds. IsNumeral 10 ds in
    let n : IsNumeral 10 (without_minus word) = subst P (sign-minus word plain) m.numeral in
    and_from (has_bytes (without_minus word) && all_ascii_digits (without_minus word)) (fits_i64 (signed_digits_value 10 word))
    (and_from (has_bytes (without_minus word)) (all_ascii_digits (without_minus word)) (some-bytes (without_minus word) n.0)
    (own.from (without_minus word) n.1))
    (fits-to (signed_digits_value 10 word) m.fits)

-- A word that fails the test is no integer.
none-unless : (word : List ℕ) → (is_integer word ≡ true → ⊥) → None ≡ integer_of word
none-unless word not_one = by (is_integer word) refl
  where
    by : (t : Bool) → is_integer word ≡ t → None ≡ integer_of word
    by true e = absurd (not_one e)
    by false e = read-as word false e

-- What the parse answers of a word without `+` is its integer.
parsed-is : {E : Type 0} (word : List ℕ) (r : Result ℤ E) → begins word (codes "+") ≡ false → ParsesSigned w64 10 word r → result_ok r ≡ integer_of word
parsed-is {E} word (Ok z) plain p =
    ap (λ (z : ℤ). Some z) p.1 ∙ read-as word true (means-to word plain (record { numeral = p.0.0; fits = p.0.1 }))
parsed-is {E} word (Err e) plain p = none-unless word (λ f. let m = means-from word plain f in p (m.numeral, m.fits))

-- What the parse of a word without `+` answers is the integer that the word is.
pub parsed_integer : {E : Type 0} (word text : List ℕ) (r : Result ℤ E) (o : Option ℤ) → begins word (codes "+") ≡ false → text ≡ word
    → ParsesSigned w64 10 text r → o ≡ result_ok r → o ≡ integer_of word
parsed_integer {E} word text r o plain same p is =
    let P : List ℕ → Type 0 = λ w. ParsesSigned w64 10 w r in
    is ∙ parsed-is word r plain (subst P same p)

-- A byte below 128 before ASCII is ASCII.
pub ascii-cons : (b : ℕ) (bs : List ℕ) → b < 128 → IsAscii bs → IsAscii (b ∷ bs)
ascii-cons b bs h a zero = h
ascii-cons b bs h a (suc i) = a i

-- Digits are ASCII.
ascii-digits : (ds : List ℕ) → all_ascii_digits ds ≡ true → IsAscii ds
ascii-digits [] e i = omega arith
ascii-digits (d ∷ ds) e i =
    let p = and_parts _ (all_ascii_digits ds) e in
    ascii-cons d ds (small d p.0) (ascii-digits ds p.1) i
  where
    small : (d : ℕ) → is_ascii_digit d ≡ true → d < 128
    small d e = grind (arith, nat_tests)

-- So is a word of digits after a minus or without.
ascii-integer : (word : List ℕ) → all_ascii_digits (without_minus word) ≡ true → IsAscii word
ascii-integer [] e = ascii-digits [] refl
ascii-integer (b ∷ bs) e = by (b == 45) refl
  where
    by : (t : Bool) → (b == 45) ≡ t → IsAscii (b ∷ bs)
    by true f = ascii-cons b bs (let g = eqb-true b 45 f in omega arith)
        (ascii-digits bs (sym (ap (λ (t : Bool). all_ascii_digits (if t then bs else b ∷ bs)) f) ∙ e))
    by false f = ascii-digits (b ∷ bs) (sym (ap (λ (t : Bool). all_ascii_digits (if t then bs else b ∷ bs)) f) ∙ e)

-- A word that is no UTF-8 is no integer.
pub text_none : (word : List ℕ) → ¬ (IsUtf8 word) → None ≡ integer_of word
text_none word other = none-unless word (λ e.
    let p = and_parts (has_bytes (without_minus word) && all_ascii_digits (without_minus word)) (fits_i64 (signed_digits_value 10 word)) e in
    let q = and_parts (has_bytes (without_minus word)) (all_ascii_digits (without_minus word)) p.0 in
    other (IsUtf8-from_ascii word (ascii-integer word q.1)))
