-- Numbers and ids as they are read.
use Rattle.std.proofs.Common.{◌≡◌, ◌≢◌, ◌==◌, cond, Bool, false, ℕ, zero, suc, ◌+◌, ◌*◌, ◌/◌, ◌%◌, ◌<◌, ◌≤◌, ◌^◌, List, [], ◌∷◌}
use Rattle.std.proofs.Common.{◌++◌, length, take, get_or, take-suc, ◌-◌, inl, inr, eq-or-lt_of_le}
use Rattle.std.proofs.Common.{Option, Some, None, MatchOption, Result, sym, ◌∙◌, ap, subst, arith}
use Rattle.std.proofs.lemmas.Fmt.{parse-decimal, IsAscii-decimal}
use Rattle.std.proofs.lemmas.List.{append_cancel_left, get_or_append_left, get_or-append_right, take_all}
use Rattle.std.proofs.Math.Nat.{pow-le-pow_right}
use Rattle.std.proofs.lemmas.Str.{IsUtf8-from_ascii}
use Rattle.std.specs.Fmt.{decimal, digit_glyph}
use Rattle.std.specs.Result.{result_ok}
use Rattle.std.specs.Str.{IsUtf8}
use Rattle.std.specs.Str.Parse.{ParsesUnsigned}
use Rattle.version_links.specs.Names.{hex, id_text}
use Rattle.version_links.specs.Steps.{digits_behind, extended}
use Rattle.version_links.proofs.Glyphs.{length-hex}

-- A number's digits are parsed to it.
pub parsed_number : {E : Type 0} (ds text : List ℕ) (r : Result ℕ E) (o : Option ℕ) → o ≡ result_ok r → ParsesUnsigned 64 10 text r → text ≡ ds → (n : ℕ)
    → n < 2 ^ 64 → ds ≡ decimal n → o ≡ Some n
parsed_number ds text r o is parses same n below digits = is ∙ ap result_ok (parse-decimal 64 n text r below below (same ∙ digits) parses)

-- Bytes that are no text are no number's digits.
pub no_text : (ds : List ℕ) (o : Option ℕ) → (IsUtf8 ds → ⊥) → (n : ℕ) → n < 2 ^ 64 → ds ≡ decimal n → o ≡ Some n
no_text ds o not n below digits = absurd (not (subst (λ (l : List ℕ). IsUtf8 l) (sym digits) (IsUtf8-from_ascii (decimal n) (IsAscii-decimal n below))))

-- What isn't parsed is no number's digits.
pub not_parsed : (ds : List ℕ) (o : Option ℕ) → ((n : ℕ) → n < 2 ^ 64 → ds ≡ decimal n → o ≡ Some n) → o ≡ None → (n : ℕ) → n < 2 ^ 64 → ds ≢ decimal n
not_parsed ds o reads none n below digits = let e : None ≡ Some n = sym none ∙ reads n below digits in cc

-- One more digit.
pub hex-more : (count n d : ℕ) → d < 16 → hex (suc count) (n * 16 + d) ≡ hex count n ++ digit_glyph false d ∷ []
hex-more count n d below = let high : (n * 16 + d) / 16 ≡ n = omega arith in let low : (n * 16 + d) % 16 ≡ d = omega arith in
    ap (λ k. hex count k ++ digit_glyph false ((n * 16 + d) % 16) ∷ []) high ∙ ap (λ k. hex count n ++ digit_glyph false k ∷ []) low

-- Each byte is a digit.
pub hex_digit : (count n i : ℕ) → i < count → (d : ℕ) × (d < 16) × (get_or (hex count n) i 0 ≡ digit_glyph false d)
hex_digit zero n i below = absurd (omega arith)
hex_digit (suc count) n i below = elim (eq-or-lt_of_le (let le : i ≤ count = omega arith in le)) [
  | inl last ↦ (
    n % 16,
    omega arith,
    get_or-append_right (hex count (n / 16)) (digit_glyph false (n % 16) ∷ []) count i 0 (length-hex count (n / 16))
        (omega arith) ∙ ap (λ k. get_or (digit_glyph false (n % 16) ∷ []) k 0) (let e : i - count ≡ 0 = omega arith in e),
  )
  | inr before ↦ let high = hex_digit count (n / 16) i before in (
    high.0,
    high.1,
    get_or_append_left (hex count (n / 16)) (digit_glyph false (n % 16) ∷ []) 0 i
        (let e = length-hex count (n / 16) in omega arith) ∙ high.2,
  )
]

-- What has another byte is no id's digits.
pub not_hex : (ds : List ℕ) (i : ℕ) → i < 16 → ((n : ℕ) → n < 16 → get_or ds i 0 ≢ digit_glyph false n) → (n : ℕ) → n < 2 ^ 64 → ds ≢ id_text n
unfolding id_text
not_hex ds i inside other n below is = let at = hex_digit 16 n i inside in other at.0 at.1 (ap (λ (l : List ℕ). get_or l i 0) is ∙ at.2)

-- What has another length is no id's digits.
pub not_long : (ds : List ℕ) → length ds ≢ 16 → (n : ℕ) → n < 2 ^ 64 → ds ≢ id_text n
unfolding id_text
not_long ds other n below is = other (ap length is ∙ length-hex 16 n)

-- All 16 digits are read.
pub all_read : (ds : List ℕ) (i n : ℕ) → length ds ≡ 16 → i ≡ 16 → hex i n ≡ take i ds → ds ≡ id_text n
unfolding id_text
all_read ds i n size whole read = sym (ap (λ k. hex k n) (sym whole) ∙ read ∙ take_all i ds (omega arith))

-- The number fits with one digit more.
pub one_more : (i n d : ℕ) → i < 16 → d < 16 → n < 16 ^ i → (n * 16 + d < 2 ^ 64) × (n * 16 + d < 16 ^ (i + 1))
one_more i n d inside small below =
    let first : n * 16 + d < 16 ^ suc i = grind arith in
    let next : n * 16 + d < 16 ^ (i + 1) = subst (λ k. n * 16 + d < 16 ^ k) (let e : suc i ≡ i + 1 = omega arith in e) first in
    let most : 16 ^ (i + 1) ≤ 16 ^ 16 = pow-le-pow_right {n = 16} (omega arith) {i = i + 1} {j = 16} (omega arith) in
    (omega (arith, next, most), next)

-- The digits so far, with one more.
pub read_more : (ds : List ℕ) (i n d w : ℕ) → i < length ds → hex i n ≡ take i ds → w ≡ d → d < 16 → get_or ds i 0 ≡ digit_glyph false d
    → hex (i + 1) (n * 16 + w) ≡ take (i + 1) ds
read_more ds i n d w inside so_far same below is =
    ap (λ k. hex (i + 1) (n * 16 + k)) same
    ∙ ap (λ k. hex k (n * 16 + d)) (let e : i + 1 ≡ suc i = omega arith in e)
    ∙ hex-more i n d below
    ∙ ap (λ (l : List ℕ). l ++ digit_glyph false d ∷ []) so_far
    ∙ ap (λ k. take i ds ++ k ∷ []) (sym is)
    ∙ sym (take-suc ds i 0 inside)
    ∙ ap (λ k. take k ds) (let e : suc i ≡ i + 1 = omega arith in e)

-- ---- after a front and a mark

pub no_mark : (text front rest : List ℕ) (mark : ℕ) → text ≡ front ++ rest → ((more : List ℕ) → rest ≢ mark ∷ more) → (n : ℕ) → n < 2 ^ 64
    → text ≢ extended front mark n
no_mark text front rest mark split other n below is = other (digits_behind mark n)
    (append_cancel_left front rest (mark ∷ digits_behind mark n) (sym split ∙ is))

-- What the digits after them are, the text is with them.
pub behind : (text front rest digits : List ℕ) (mark : ℕ) (o : Option ℕ) → text ≡ front ++ rest → rest ≡ mark ∷ digits
    → MatchOption o ((n : ℕ) → n < 2 ^ 64 → digits ≢ digits_behind mark n) (λ n. digits ≡ digits_behind mark n)
    → MatchOption o ((n : ℕ) → n < 2 ^ 64 → text ≢ extended front mark n) (λ n. text ≡ extended front mark n)
behind text front rest digits mark None split marked none = λ n below is.
    let tails : mark ∷ digits ≡ mark ∷ digits_behind mark n = append_cancel_left front (mark ∷ digits) (mark ∷ digits_behind mark n)
    (ap (λ (l : List ℕ). front ++ l) (sym marked) ∙ sym split ∙ is) in
    none n below cc
behind text front rest digits mark (Some m) split marked some = split ∙ ap (λ (l : List ℕ). front ++ l) (marked ∙ ap (λ (l : List ℕ). mark ∷ l) some)

pub behind_id : (digits : List ℕ) (mark : ℕ) (o : Option ℕ) → mark ≡ 95 → MatchOption o ((n : ℕ) → n < 2 ^ 64 → digits ≢ id_text n) (λ n. digits ≡ id_text n)
    → MatchOption o ((n : ℕ) → n < 2 ^ 64 → digits ≢ digits_behind mark n) (λ n. digits ≡ digits_behind mark n)
behind_id digits mark o is h = subst (λ k. MatchOption o ((n : ℕ) → n < 2 ^ 64 → digits ≢ digits_behind k n) (λ n. digits ≡ digits_behind k n)) (sym is) h

pub behind_number : (digits : List ℕ) (mark : ℕ) (o : Option ℕ) → (mark == 95) ≡ false → MatchOption o ((n : ℕ) → n < 2 ^ 64 → digits ≢ decimal n)
    (λ n. digits ≡ decimal n) → MatchOption o ((n : ℕ) → n < 2 ^ 64 → digits ≢ digits_behind mark n) (λ n. digits ≡ digits_behind mark n)
behind_number digits mark None other h = λ n below is. h n below (is ∙ ap (λ (b : Bool). cond b (id_text n) (decimal n)) other)
behind_number digits mark (Some m) other h = h ∙ sym (ap (λ (b : Bool). cond b (id_text m) (decimal m)) other)
