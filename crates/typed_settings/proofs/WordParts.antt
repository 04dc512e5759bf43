-- A text determines the bounds and the names that it spells.
use Rattle.std.proofs.Common.{◌≡◌, ◌≢◌, ℕ, ℤ, zero, suc, ◌+◌, ◌^◌, ◌<◌, true, false, true≢false, eqb}
use Rattle.std.proofs.Common.{List, [], ◌∷◌, ◌++◌, length, get_or, take, sym, ◌∙◌, ap, refl, arith, lit<}
use Rattle.std.specs.Prelude.{FitsSigned, Option, MatchOption}
use Rattle.std.specs.Int.{w64}
use Rattle.std.specs.List.{All, AllPairs, list_all, slice_split, join_with_byte}
use Rattle.std.specs.Fmt.{signed_decimal, decimal}
use Rattle.std.specs.Str.Parse.{AllDigits}
use Rattle.std.proofs.lemmas.Bool.{and_parts, ne_eqb}
use Rattle.std.proofs.lemmas.Fmt.{digits_decimal, signed_decimal_injective}
use Rattle.std.specs.Str.{bytes_eq}
use Rattle.std.proofs.lemmas.List.{get_or_default, get_or-take, length-take, take_more, take_all}
use Rattle.std.proofs.lemmas.List.Folds.{Any-from_list_any, list_any_at}
use Rattle.std.proofs.lemmas.List.Quantifiers.{all_pairs_push}
use Rattle.std.proofs.lemmas.List.Splits.{slice_split_at, slice_split_none, length-slice_split, join_with_byte-slice_split}
use Rattle.std.proofs.lemmas.Str.Parse.{digit_at, numerals_by_value, tells_digits}
use Rattle.std.proofs.lemmas.Slice.Eq.{bytes_eq-Decides}
use Rattle.std.proofs.lemmas.Str.Pattern.{IsSplitOnceResult, split_after}
use Rattle.std.specs.Cmp.Lexicographic.{same_text}
use denote.Ref.{Bor}
use lib.IntN.{pos, negsuc}
use Rattle.key_names.specs.Segment.{is_bare}
use Rattle.typed_settings.specs.Takes.{is_offered}
use Rattle.typed_settings.specs.Word.{is_identifier, bounds_text, AreBounds, SpellsBounds, SpellsChoices}

-- ---- bounds

-- A byte that is no digit isn't among those of a number.
no_space : (n : ℕ) → n < 2 ^ 64 → (k : ℕ) (d : ℕ) → k < length (decimal n) → eqb (get_or (decimal n) k d) 32 ≡ false
no_space n small k d within =
    let digits : AllDigits 10 (decimal n) = digits_decimal (numerals_by_value (AllDigits 10) tells_digits) n small in
    let digit = digit_at (decimal n) k digits within in
    let same = get_or_default (decimal n) k d 0 within in
    ne_eqb (get_or (decimal n) k d) 32 (λ e. omega (arith, digit.0, same, e))

-- A bound has no space.
pub spaceless : (z : ℤ) → FitsSigned w64 z → All (λ b. eqb b 32 ≡ false) (signed_decimal z)
spaceless (pos n) small k d within = no_space n (omega (arith, small.sfits)) k d within
spaceless (negsuc n) small zero d within = refl
spaceless (negsuc n) small (suc k) d within = no_space (suc n) (omega (arith, small.sfits)) k d (omega (arith, within))

-- The same, at each byte.
pub spaceless_at : (z : ℤ) → FitsSigned w64 z → (k : ℕ) → k < length (signed_decimal z) → get_or (signed_decimal z) k 0 ≢ 32
spaceless_at z fits k within e = true≢false (sym (ap (λ b. eqb b 32) e) ∙ spaceless z fits k 0 within)

-- The text of two bounds is cut at the space.
split_bounds : (low high : ℤ) → AreBounds low high → slice_split (λ b. eqb b 32) (bounds_text low high) ≡ signed_decimal low ∷ signed_decimal high ∷ []
split_bounds low high valid =
    slice_split_at (λ b. eqb b 32) (signed_decimal low) 32 (signed_decimal high) (spaceless low valid.low_fits) refl
    ∙ ap (λ parts. signed_decimal low ∷ parts) (slice_split_none (λ b. eqb b 32) (signed_decimal high) (spaceless high valid.high_fits))

-- A text spells one pair of bounds.
pub one_bounds : (text : List ℕ) (low high low' high' : ℤ) → SpellsBounds text low high → SpellsBounds text low' high' → (low ≡ low') × (high ≡ high')
one_bounds text low high low' high' is is' =
    let parts : signed_decimal low ∷ signed_decimal high ∷ [] ≡ signed_decimal low' ∷ signed_decimal high' ∷ [] = sym (split_bounds low high is.valid)
    ∙ ap (slice_split (λ b. eqb b 32)) (sym is.spelled ∙ is'.spelled) ∙ split_bounds low' high' is'.valid in
    let lows : signed_decimal low ≡ signed_decimal low' = cc in
    let highs : signed_decimal high ≡ signed_decimal high' = cc in (
      signed_decimal_injective low low' is.valid.low_fits.sfits is'.valid.low_fits.sfits lows,
      signed_decimal_injective high high' is.valid.high_fits.sfits is'.valid.high_fits.sfits highs,
    )

-- A text of bounds that is cut at its first space gives their texts.
pub cut_bounds : (text : List ℕ) (r : Option (Bor (List ℕ) × Bor (List ℕ))) → IsSplitOnceResult 32 text r → (low high : ℤ) → SpellsBounds text low high
    → MatchOption r ⊥ (λ x. (x.0.now ≡ signed_decimal low) × (x.1.now ≡ signed_decimal high))
cut_bounds text r cut low high is = split_after 32 text (signed_decimal low) (signed_decimal high) r cut (lit< tt) is.spelled
    (spaceless_at low is.valid.low_fits)

-- ---- names

-- The parts of a text between bars.
abbrev pub pieces : List ℕ → List (List ℕ)
pieces text = slice_split (λ b. eqb b 124) text

-- Bare characters have no bar among them.
barless : (name : List ℕ) → list_all is_bare name ≡ true → All (λ b. eqb b 124 ≡ false) name
barless [] bare k d within = absurd (omega (arith, within))
barless (b ∷ name) bare zero d within =
    ne_eqb b 124 (λ bar. true≢false (sym (and_parts (is_bare b) (list_all is_bare name) bare).0 ∙ ap is_bare bar))
barless (b ∷ name) bare (suc k) d within = barless name (and_parts (is_bare b) (list_all is_bare name) bare).1 k d (omega (arith, within))

-- An identifier has bare characters.
bare_of : (name : List ℕ) → is_identifier name ≡ true → list_all is_bare name ≡ true
bare_of name valid = (and_parts _ (list_all is_bare name) valid).1

-- Identifiers that are joined by bars are the parts between them.
pieces_of : (names : List (List ℕ)) → 0 < length names → list_all is_identifier names ≡ true → pieces (join_with_byte 124 names) ≡ names
pieces_of [] some valid = absurd (omega (arith, some))
pieces_of (x ∷ []) some valid = slice_split_none (λ b. eqb b 124) x (barless x (bare_of x (and_parts (is_identifier x) true valid).0))
pieces_of (x ∷ y ∷ names) some valid =
    let parts = and_parts (is_identifier x) (list_all is_identifier (y ∷ names)) valid in
    slice_split_at (λ b. eqb b 124) x 124 (join_with_byte 124 (y ∷ names)) (barless x (bare_of x parts.0)) refl
    ∙ ap (λ others. x ∷ others) (pieces_of (y ∷ names) (omega arith) parts.1)

-- The names that a text spells are the parts between its bars.
pub spelled_pieces : (text : List ℕ) (names : List (List ℕ)) → SpellsChoices text names → pieces text ≡ names
spelled_pieces text names is = ap pieces is.spelled ∙ pieces_of names is.valid.some is.valid.valid

-- Each of them is an identifier.
pub valid_piece : (text : List ℕ) (names : List (List ℕ)) → SpellsChoices text names → (k : ℕ) (d : List ℕ) → k < length (pieces text)
    → is_identifier (get_or (pieces text) k d) ≡ true
valid_piece text names is = of_all (pieces text) (ap (list_all is_identifier) (spelled_pieces text names is) ∙ is.valid.valid)
  where
    of_all : (parts : List (List ℕ)) → list_all is_identifier parts ≡ true → (k : ℕ) (d : List ℕ) → k < length parts → is_identifier (get_or parts k d) ≡ true
    of_all [] all k d within = absurd (omega (arith, within))
    of_all (x ∷ parts) all zero d within = (and_parts (is_identifier x) (list_all is_identifier parts) all).0
    of_all (x ∷ parts) all (suc k) d within = of_all parts (and_parts (is_identifier x) (list_all is_identifier parts) all).1 k d (omega (arith, within))

-- A part that is no identifier is refused.
pub refused_piece : (text : List ℕ) (names : List (List ℕ)) (k : ℕ) (name : List ℕ) → (k < length (pieces text)) × (name ≡ get_or (pieces text) k name)
    → is_identifier name ≡ false → SpellsChoices text names → ⊥
refused_piece text names k name at bad is = true≢false (sym (valid_piece text names is k name at.0) ∙ ap is_identifier (sym at.1) ∙ bad)

-- So is one that is among those before it.
pub refused_twice : (text : List ℕ) (names done : List (List ℕ)) (k : ℕ) (name : List ℕ) → done ≡ take k (pieces text)
    → (k < length (pieces text)) × (name ≡ get_or (pieces text) k name) → is_offered done name ≡ true → SpellsChoices text names → ⊥
refused_twice text names done k name same at offered is = of_any (Any-from_list_any (λ other. bytes_eq other name) done offered)
  where
    of_any : ((j : ℕ) × (x : List ℕ) × (j < length done) × (get_or done j x ≡ x) × (bytes_eq x name ≡ true)) → ⊥
    of_any (j, x, within, there, equal) =
        let parts = spelled_pieces text names is in
        let before : j < k = omega (arith, within, ap length same, length-take k (pieces text)) in
        let x_is : get_or names j x ≡ x = ap (λ p. get_or p j x) (sym parts) ∙ sym (get_or-take k (pieces text) j x before) ∙ ap (λ p. get_or p j x) (sym same)
        ∙ there in
        let name_is : get_or names k x ≡ name = ap (λ p. get_or p k x) (sym parts) ∙ get_or_default (pieces text) k x name at.0 ∙ sym at.1 in
        is.valid.different j k x before (omega (arith, at.0, ap length parts)) (x_is ∙ same_text x name (sym equal) ∙ sym name_is)

-- One more part is done.
pub more_pieces : (text : List ℕ) (done : List (List ℕ)) (k n : ℕ) (name : List ℕ) → done ≡ take k (pieces text)
    → (k < length (pieces text)) × (name ≡ get_or (pieces text) k name) → n ≡ k + 1 → done ++ name ∷ [] ≡ take n (pieces text)
more_pieces text done k n name same at more =
    ap (λ d. d ++ name ∷ []) same ∙ ap (λ x. take k (pieces text) ++ x ∷ []) at.1 ∙ sym (take_more (pieces text) k name at.0)
    ∙ ap (λ m. take m (pieces text)) (sym more)

-- It is an identifier, as all before.
pub valid_more : (done : List (List ℕ)) (name : List ℕ) → list_all is_identifier done ≡ true → is_identifier name ≡ true
    → list_all is_identifier (done ++ name ∷ []) ≡ true
valid_more [] name all valid = rw valid refl
valid_more (x ∷ done) name all valid =
    let parts = and_parts (is_identifier x) (list_all is_identifier done) all in
    rw parts.0 (valid_more done name parts.1 valid)

-- And none of them.
pub different_more : (done : List (List ℕ)) (name : List ℕ) → AllPairs (λ one other. one ≢ other) done → is_offered done name ≡ false
    → AllPairs (λ one other. one ≢ other) (done ++ name ∷ [])
different_more done name different fresh =
    all_pairs_push (λ one other. one ≢ other) done name different (λ k d within same. true≢false
    (sym (list_any_at (λ other. bytes_eq other name) done k d within ((bytes_eq-Decides (get_or done k d) name).1 same)) ∙ fresh))

-- Where all are done, the text spells them.
pub spells_all : (text : List ℕ) (done : List (List ℕ)) (k : ℕ) → done ≡ take k (pieces text) → k ≡ length (pieces text) → list_all is_identifier done ≡ true
    → AllPairs (λ one other. one ≢ other) done → SpellsChoices text done
spells_all text done k same all valid different =
    let whole : done ≡ pieces text = same ∙ ap (λ n. take n (pieces text)) all ∙ take_all (length (pieces text)) (pieces text) (omega arith) in
    record {
      valid = record {
        some = omega (arith, ap length whole, length-slice_split (λ b. eqb b 124) text);
        valid = valid;
        different = different;
      };
      spelled = sym (ap (join_with_byte 124) whole ∙ join_with_byte-slice_split 124 text);
    }
