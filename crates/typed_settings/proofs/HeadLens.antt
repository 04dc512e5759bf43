-- How long the place at the head of a text is.
use Rattle.std.proofs.Common.{◌≡◌, ◌≢◌, ℕ, ◌+◌, ◌<◌, ◌≤◌, ◌⊎◌, inl, inr, Bool, true, false, not}
use Rattle.std.proofs.Common.{◌==◌, true≢false, List, [], ◌∷◌, ◌++◌, length, get_or, length-append, refl, sym, ap, ◌∙◌, arith}
use Rattle.std.specs.List.{list_all, position_or_len}
use Rattle.std.proofs.lemmas.Bool.{and_parts, cases_eq, ne_eqb, ltb-true}
use Rattle.std.proofs.lemmas.List.{append_assoc}
use Rattle.key_names.specs.Joined.{Ends, Joins}
use Rattle.key_names.specs.Segment.{is_bare, is_quotable, is_segment, quoted}
use Rattle.key_names.specs.Spelling.{IsSpelling, SpellsKey}
use Rattle.key_names.proofs.Runs.{Stops, prefix_len-run}
use Rattle.typed_settings.specs.Pattern.{IsPlaceText, IsHeadLen}
use Rattle.typed_settings.specs.declared.place.Place.{Place}
use Rattle.typed_settings.specs.declared.place.Place.TheVariants.{Any, Plain}

-- A run of bytes that pass a test has no byte that doesn't.
none_in_run : (test : ℕ → Bool) (byte : ℕ) → test byte ≡ false → (run : List ℕ) → list_all test run ≡ true → list_all (λ b. not (b == byte)) run ≡ true
none_in_run test byte differs [] all = refl
none_in_run test byte differs (x ∷ run) all =
    let parts = and_parts (test x) (list_all test run) all in
    let differ : (x == byte) ≡ false = ne_eqb x byte (λ same. true≢false (sym parts.0 ∙ ap test same ∙ differs)) in
    rw differ (none_in_run test byte differs run parts.1)

-- The first such byte is after the run.
first_behind : (test : ℕ → Bool) (byte : ℕ) → test byte ≡ false → (run rest : List ℕ) → list_all test run ≡ true → Stops (λ b. not (b == byte)) rest
    → position_or_len (λ b. b == byte) (run ++ rest) ≡ length run
first_behind test byte differs run rest all stops = prefix_len-run (λ b. not (b == byte)) run rest (none_in_run test byte differs run all) stops

-- Where a place ends, there is a dot or the text ends.
Stops-dot : (rest : List ℕ) → Ends 46 rest → Stops (λ b. not (b == 46)) rest
Stops-dot rest (inl none) = inl none
Stops-dot rest (inr (more, dot)) = inr (46, more, dot, refl)

-- A key of one segment is spelled as the segment.
pub spelling_of : (front segment : List ℕ) → SpellsKey front (segment ∷ []) → IsSpelling front segment
unfolding Joins
spelling_of front segment spelled = spelled.spells

-- A segment has a byte that may be in quotes, and only such.
quotable : (segment : List ℕ) → is_segment segment ≡ true → (0 < length segment) × (list_all is_quotable segment ≡ true)
quotable segment valid =
    let parts = and_parts _ (list_all is_quotable segment) valid in
    (ltb-true 0 (length segment) parts.0, parts.1)

-- A place that begins with a quote ends after the next one.
pub quoted_len : (inside front back : List ℕ) (place : Place) → 34 ∷ inside ≡ front ++ back → IsPlaceText front place
    → length front ≡ position_or_len (λ b. b == 34) inside + 2
quoted_len inside front back Any parts star =
    let e : 34 ≡ 42 = ap (λ t. get_or t 0 0) (parts ∙ ap (λ f. f ++ back) star) in absurd (omega (arith, e))
quoted_len inside front back (Plain s) parts spelled = of_form (spelling_of front s spelled).form
  where
    valid : (0 < length s) × (list_all is_quotable s ≡ true)
    valid = quotable s (spelling_of front s spelled).valid

    of_bare : (t : List ℕ) → 0 < length t → list_all is_bare t ≡ true → 34 ∷ inside ≡ t ++ back → ⊥
    of_bare [] some bare e = absurd (omega (arith, some))
    of_bare (x ∷ t) some bare e =
        let x_is : 34 ≡ x = ap (λ u. get_or u 0 0) e in
        true≢false (sym (and_parts (is_bare x) (list_all is_bare t) bare).0 ∙ sym (ap is_bare x_is))

    of_form : (front ≡ quoted s) ⊎ ((front ≡ s) × (list_all is_bare s ≡ true)) → length front ≡ position_or_len (λ b. b == 34) inside + 2
    of_form (inl in_quotes) =
        let whole : 34 ∷ inside ≡ 34 ∷ ((s ++ 34 ∷ []) ++ back) = parts ∙ ap (λ f. f ++ back) in_quotes in
        let inside_is : inside ≡ (s ++ 34 ∷ []) ++ back = cc in
        let place : position_or_len (λ b. b == 34) inside ≡ length s = ap (position_or_len (λ b. b == 34)) (inside_is ∙ append_assoc s (34 ∷ []) back)
        ∙ first_behind is_quotable 34 refl s (34 ∷ back) valid.1 (inr (34, back, refl, refl)) in
        omega (arith, place, ap length in_quotes, length-append (34 ∷ s) (34 ∷ []))
    of_form (inr (same, bare)) = absurd (of_bare s valid.0 bare (parts ∙ ap (λ f. f ++ back) same))

-- Any other place ends at the first dot.
pub plain_len : (text front back : List ℕ) (place : Place) → get_or text 0 0 ≢ 34 → text ≡ front ++ back → IsPlaceText front place → Ends 46 back
    → position_or_len (λ b. b == 46) text ≡ length front
plain_len text front back Any unquoted parts star ends =
    let whole : text ≡ (42 ∷ []) ++ back = parts ∙ ap (λ f. f ++ back) star in
    ap (position_or_len (λ b. b == 46)) whole ∙ first_behind (λ b. not (b == 46)) 46 refl (42 ∷ []) back refl (Stops-dot back ends) ∙ sym (ap length star)
plain_len text front back (Plain s) unquoted parts spelled ends = of_form (spelling_of front s spelled).form
  where
    of_form : (front ≡ quoted s) ⊎ ((front ≡ s) × (list_all is_bare s ≡ true)) → position_or_len (λ b. b == 46) text ≡ length front
    of_form (inl in_quotes) = absurd (unquoted (ap (λ t. get_or t 0 0) (parts ∙ ap (λ f. f ++ back) in_quotes)))
    of_form (inr (same, bare)) =
        ap (position_or_len (λ b. b == 46)) (parts ∙ ap (λ f. f ++ back) same) ∙ first_behind is_bare 46 refl s back bare (Stops-dot back ends)
        ∙ sym (ap length same)

-- The length of a place that begins with a quote, where another closes it.
pub closed_head : (text inside : List ℕ) (first len : ℕ) → text ≡ first ∷ inside → first ≡ 34 → len ≡ position_or_len (λ b. b == 34) inside
    → len < length inside → IsHeadLen text (len + 2)
closed_head text inside first len parts quote len_is closed = record {
  within = omega (arith, ap length parts);
  exact = λ front back place is spelled ends. omega (arith, len_is, quoted_len inside front back place (sym (parts ∙ ap (λ b. b ∷ inside) quote) ∙ is) spelled);
}

-- Where none closes it, no place is there.
pub unclosed_head : (text inside : List ℕ) (first len : ℕ) → text ≡ first ∷ inside → first ≡ 34 → len ≡ position_or_len (λ b. b == 34) inside
    → length inside ≤ len → IsHeadLen text (length text)
unclosed_head text inside first len parts quote len_is unclosed = record {
  within = omega arith;
  exact = λ front back place is spelled ends. absurd (omega (
    arith,
    len_is,
    quoted_len inside front back place (sym (parts ∙ ap (λ b. b ∷ inside) quote) ∙ is)
        spelled,
    ap length is,
    ap length parts,
    length-append front back,
  ));
}

-- The length of any other place.
pub other_head : (text : List ℕ) (len : ℕ) → get_or text 0 0 ≢ 34 → len ≡ position_or_len (λ b. b == 46) text → len ≤ length text → IsHeadLen text len
other_head text len unquoted len_is within = record {
  within = within;
  exact = λ front back place is spelled ends. len_is ∙ plain_len text front back place unquoted is spelled ends;
}

-- The place that a text begins with has one length.
pub same_front : (text front back front' back' : List ℕ) (x y : Place) → text ≡ front ++ back → IsPlaceText front x → Ends 46 back → text ≡ front' ++ back'
    → IsPlaceText front' y → Ends 46 back' → length front ≡ length front'
same_front [] front back front' back' x y parts is ends parts' is' ends' =
    omega (arith, ap length parts, ap length parts', length-append front back, length-append front' back')
same_front (b ∷ inside) front back front' back' x y parts is ends parts' is' ends' = by_first (cases_eq b 34)
  where
    by_first : (b ≡ 34) ⊎ (b ≢ 34) → length front ≡ length front'
    by_first (inl quote) =
        let text_is : 34 ∷ inside ≡ b ∷ inside = ap (λ c. c ∷ inside) (sym quote) in
        quoted_len inside front back x (text_is ∙ parts) is ∙ sym (quoted_len inside front' back' y (text_is ∙ parts') is')
    by_first (inr other) = sym (plain_len (b ∷ inside) front back x other parts is ends) ∙ plain_len (b ∷ inside) front' back' y other parts' is' ends'
