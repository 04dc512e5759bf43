-- Decimal numbers.
use Rattle.std.proofs.Common.{◌≡◌, ◌≢◌, true, false, ℕ, zero, suc, ◌+◌, ◌-◌, ◌*◌, ◌<◌, ◌^◌, List, [], ◌∷◌}
use Rattle.std.proofs.Common.{length, get_or, Option, Some, None, MatchOption, Result, Ok, Err, refl, sym, ◌∙◌, ap, subst, arith, rules}
use Rattle.std.proofs.lemmas.Bool.{false≢true}
use Rattle.std.proofs.lemmas.Bool.Decides.{nat_tests}
use Rattle.std.proofs.lemmas.Fmt.{decimal_digit, first_decimal, decimal_nonempty, decimal_is_IsNumeral, decimal-digits_value, parse-decimal, IsAscii-decimal}
use Rattle.std.proofs.lemmas.Result.{OkIff-at_ok}
use Rattle.std.proofs.lemmas.Str.{IsUtf8-from_ascii}
use Rattle.std.proofs.lemmas.Str.Parse.{IsNumeralModel, numerals_by_fold, parse_plain}
use Rattle.std.specs.Char.{digit_value}
use Rattle.std.specs.Fmt.{decimal}
use Rattle.std.specs.Result.{result_ok}
use Rattle.std.specs.Str.{IsUtf8, all_ascii_digits}
use Rattle.std.specs.Str.Parse.{AllDigits, ParsesUnsigned}
use Rattle.commit_journal.specs.Parts.{Lacks, is_plain, IsNumber}

-- the value of digits after a number
abbrev read_on : ℕ → List ℕ → ℕ
read_on n [] = n
read_on n (c ∷ cs) = read_on (10 * n + (c - 48)) cs

-- this is how numerals are read
own : IsNumeralModel (λ ds. all_ascii_digits ds ≡ true) (read_on 0)
own = numerals_by_fold _ (search rules) read_on (search rules)

-- digits whose first is above zero are plain
plain_large : (ds : List ℕ) → 0 < length ds → 48 < get_or ds 0 0 → is_plain ds ≡ true
plain_large [] some large = absurd (omega arith)
plain_large (a ∷ []) some large = grind (arith, nat_tests)
plain_large (a ∷ b ∷ ds) some large = grind (arith, nat_tests)

-- a number is printed plainly
plain_decimal : (n : ℕ) → n < 2 ^ 64 → is_plain (decimal n) ≡ true
plain_decimal zero below = ap is_plain (decimal_digit 0 (omega arith))
plain_decimal (suc n) below = plain_large (decimal (suc n)) (decimal_nonempty (suc n) below) (first_decimal (suc n) (omega arith) below)

-- bytes that are no text are no number
pub no_utf8 : (ds : List ℕ) → (IsUtf8 ds → ⊥) → (n : ℕ) → n < 2 ^ 64 → ds ≢ decimal n
no_utf8 ds other n below is = other (subst (λ (l : List ℕ). IsUtf8 l) (sym is) (IsUtf8-from_ascii (decimal n) (IsAscii-decimal n below)))

-- plain digits begin with no plus, and with a zero only alone
first_plain : (ds : List ℕ) → is_plain ds ≡ true → (get_or ds 0 0 ≢ 43) × (get_or ds 0 0 ≡ 48 → length ds ≡ 1)
first_plain [] plain = absurd (false≢true plain)
first_plain (a ∷ []) plain = ((λ is. grind (arith, nat_tests)), λ is. refl)
first_plain (a ∷ b ∷ ds) plain = ((λ is. grind (arith, nat_tests)), λ is. grind (arith, nat_tests))

-- plain digits that are parsed are the number's own
parsed : {E : Type 0} (ds : List ℕ) (r : Result ℕ E) (n : ℕ) → r ≡ Ok n → ParsesUnsigned 64 10 ds r → is_plain ds ≡ true → ds ≡ decimal n
parsed ds r n is parses plain =
    let first = first_plain ds plain in
    let h = OkIff-at_ok r _ _ n (parse_plain own 64 ds r parses first.0) is in
    sym (ap decimal h.1 ∙ decimal-digits_value own ds h.0.0 h.0.1 first.1 h.0.2)

-- digits that are not parsed are no number's
not_parsed : {E : Type 0} (ds : List ℕ) (r : Result ℕ E) (e : E) → r ≡ Err e → ParsesUnsigned 64 10 ds r → (n : ℕ) → n < 2 ^ 64 → ds ≢ decimal n
not_parsed ds r e failed parses n below is = let ok = parse-decimal 64 n ds r below below is parses in cc

-- what a parse tells of digits
pub value_parsed : {E : Type 0} (ds text : List ℕ) (r : Result ℕ E) (o : Option ℕ) → o ≡ result_ok r → ParsesUnsigned 64 10 text r → text ≡ ds
    → MatchOption o ((n : ℕ) → n < 2 ^ 64 → ds ≢ decimal n) (λ n. is_plain ds ≡ true → ds ≡ decimal n)
value_parsed {E = E} ds text (Ok n) o is parses same =
    subst (λ (p : Option ℕ). MatchOption p ((n : ℕ) → n < 2 ^ 64 → ds ≢ decimal n) (λ n. is_plain ds ≡ true → ds ≡ decimal n)) (sym is)
    (parsed {E = E} ds (Ok n) n refl (subst (λ (l : List ℕ). ParsesUnsigned {E = E} 64 10 l (Ok n)) same parses))
value_parsed ds text (Err e) o is parses same =
    subst (λ (p : Option ℕ). MatchOption p ((n : ℕ) → n < 2 ^ 64 → ds ≢ decimal n) (λ n. is_plain ds ≡ true → ds ≡ decimal n)) (sym is)
    (not_parsed ds (Err e) e refl (subst (λ (l : List ℕ). ParsesUnsigned 64 10 l (Err e)) same parses))

-- plain digits are those of the value, or of none
pub number_plain : (ds : List ℕ) (o : Option ℕ) → is_plain ds ≡ true → MatchOption o ((n : ℕ) → n < 2 ^ 64 → ds ≢ decimal n)
    (λ n. is_plain ds ≡ true → ds ≡ decimal n) → ((n : ℕ) → o ≡ Some n → n < 2 ^ 64) → MatchOption o ((n : ℕ) → IsNumber ds n → ⊥) (λ n. IsNumber ds n)
number_plain ds None plain h fits = λ n is. h n is.fits is.digits_are
number_plain ds (Some n) plain h fits = record { digits_are = h plain; fits = fits n refl }

-- digits that are not plain are no number's
pub number_other : (ds : List ℕ) → is_plain ds ≡ false → (n : ℕ) → IsNumber ds n → ⊥
number_other ds other n is = false≢true (sym other ∙ ap is_plain is.digits_are ∙ plain_decimal n is.fits)

pub ruleset numbers = (number_plain, number_other)

-- digits are no line feed
digits_lack : (ds : List ℕ) → AllDigits 10 ds → Lacks 10 ds
digits_lack [] all = tt
digits_lack (d ∷ ds) all = (λ here. ten (subst (λ k. digit_value k < 10) here all.0), digits_lack ds all.1)
  where
    ten : digit_value 10 < 10 → ⊥
    ten below = let k : 36 < 10 = below in absurd (omega arith)

-- no line feed is in a number
pub decimal_lacks : (n : ℕ) → n < 2 ^ 64 → Lacks 10 (decimal n)
decimal_lacks n below = digits_lack (decimal n) (decimal_is_IsNumeral n below).0.1
