-- A number at the front of a text, and names read by their numbers.
use Rattle.std.proofs.Common.{◌≡◌, ◌≢◌, ◌==◌, ◌<◌, ◌+◌, ◌^◌, true, false, Bool, not, cond, ℕ, zero, suc, List}
use Rattle.std.proofs.Common.{[], ◌∷◌, ◌++◌, length, take, drop, nat_lt, Some, None, refl, sym, ◌∙◌, ap, subst, arith}
use Rattle.std.proofs.lemmas.Bool.Decides.{nat_tests}
use Rattle.std.proofs.lemmas.List.{take_all}
use Rattle.std.specs.Fmt.{decimal}
use Rattle.std.specs.List.{position, position_or_len}
use Rattle.version_links.specs.Names.{id_text, Target, IsTarget, numbers, name_of}
use Rattle.version_links.specs.Steps.{digits_behind}
use Rattle.version_links.specs.Glyphs.{is_glyph, Glyphs, Ends, HasNumber, HasNoNumber}
use Rattle.version_links.proofs.Glyphs.{glyphs-decimal, same_runs}
use Rattle.version_links.proofs.Spread.{mark, written, spread, spread_is, ends-spread, glyphs-id}

abbrev is_other : ℕ → Bool
is_other c = not (is_glyph c)

abbrev run : List ℕ → ℕ
run text = position_or_len is_other text

-- The bytes up to the first that is no digit are digits.
glyphs_run : (text : List ℕ) → Glyphs (take (run text) text)
glyphs_run [] = tt
glyphs_run (x ∷ xs) =
    elim (is_glyph x) as (λ b. is_glyph x ≡ b → Glyphs (take (cond (not (not b)) (1 + run xs) 0) (x ∷ xs))) [
      | true ↦ λ e. subst (λ n. Glyphs (take n (x ∷ xs))) (let s : suc (run xs) ≡ 1 + run xs = omega arith in s) (e, glyphs_run xs)
      | false ↦ λ e. tt
    ] refl

-- No digit is the first byte after them.
ends_run : (text : List ℕ) → Ends (drop (run text) text)
ends_run [] = tt
ends_run (x ∷ xs) =
    elim (is_glyph x) as (λ b. is_glyph x ≡ b → Ends (drop (cond (not (not b)) (1 + run xs) 0) (x ∷ xs))) [
      | true ↦ λ e. subst (λ n. Ends (drop n (x ∷ xs))) (let s : suc (run xs) ≡ 1 + run xs = omega arith in s) (ends_run xs)
      | false ↦ λ e. e
    ] refl

a_place : (b : Bool) (m n : ℕ) → Some m ≡ cond b (Some n) None → m ≡ n
a_place true m n e = cc
a_place false m n e = cc

no_place : (b : Bool) (n : ℕ) → None ≡ cond b (Some n) None → b ≡ false
no_place true n e = cc
no_place false n e = refl

pub digits_before : (text : List ℕ) (at : ℕ) → Some at ≡ position is_other text → Glyphs (take at text)
digits_before text at found = subst (λ n. Glyphs (take n text)) (sym (a_place (nat_lt (run text) (length text)) at (run text) found)) (glyphs_run text)

pub ends_behind : (text : List ℕ) (at : ℕ) → Some at ≡ position is_other text → Ends (drop at text)
ends_behind text at found = subst (λ n. Ends (drop n text)) (sym (a_place (nat_lt (run text) (length text)) at (run text) found)) (ends_run text)

-- Where each byte is a digit, there is no place of another.
pub digits_all : (text : List ℕ) → None ≡ position is_other text → Glyphs text
digits_all text none =
    let past = no_place (nat_lt (run text) (length text)) (run text) none in
    subst (λ l. Glyphs l) (take_all (run text) text (let p : nat_lt (run text) (length text) ≡ false = past in grind (arith, nat_tests))) (glyphs_run text)

glyphs-behind : (mark n : ℕ) → n < 2 ^ 64 → Glyphs (digits_behind mark n)
glyphs-behind mark n below = elim (mark == 95) as (λ b. Glyphs (cond b (id_text n) (decimal n))) [ true ↦ glyphs-id n | false ↦ glyphs-decimal n below ]

-- Where the digits are no number's, the text begins with none.
pub no_number : (mark : ℕ) (text rest digits behind : List ℕ) → text ≡ mark ∷ rest → rest ≡ digits ++ behind → Glyphs digits → Ends behind
    → ((n : ℕ) → n < 2 ^ 64 → digits ≢ digits_behind mark n) → HasNoNumber mark text
no_number mark text rest digits behind marked split all ends other n more has =
    let tails : rest ≡ digits_behind mark n ++ more = let e = sym marked ∙ has.text_is in cc in
    other n has.fits (same_runs digits (digits_behind mark n) behind more all (glyphs-behind mark n has.fits) ends has.ends (sym split ∙ tails)).0

written_behind : (k n : ℕ) → digits_behind (mark k) n ≡ written k n
written_behind zero n = refl
written_behind (suc zero) n = refl
written_behind (suc (suc zero)) n = refl
written_behind (suc (suc (suc k))) n = refl

-- What follows the first number of such a text is the rest of it.
follows : (k n m : ℕ) (ns text rest : List ℕ) → m < 2 ^ 64 → HasNumber (mark k) text n rest → text ≡ spread k (m ∷ ns) → rest ≡ spread (suc k) ns
follows k n m ns text rest below has is =
    let tails : digits_behind (mark k) n ++ rest ≡ written k m ++ spread (suc k) ns = let e = sym has.text_is ∙ is in cc in
    (same_runs (digits_behind (mark k) n) (digits_behind (mark k) m) rest (spread (suc k) ns) (glyphs-behind (mark k) n has.fits)
    (glyphs-behind (mark k) m below) has.ends (ends-spread (suc k) ns) (tails ∙ ap (λ (l : List ℕ). l ++ spread (suc k) ns) (sym (written_behind k m)))).1

-- Such a text begins with a number.
begins : (k m : ℕ) (ns text : List ℕ) → m < 2 ^ 64 → HasNoNumber (mark k) text → text ≡ spread k (m ∷ ns) → ⊥
begins k m ns text below none is = none m (spread (suc k) ns) (record {
  fits = below;
  text_is = is ∙ ap (λ (l : List ℕ). mark k ∷ (l ++ spread (suc k) ns)) (sym (written_behind k m));
  ends = ends-spread (suc k) ns;
})

-- The name of a data directory is read to its end.
module _ (name : List ℕ) (target : Target) (fits : IsTarget target) (is : name ≡ name_of (numbers target)) where
  whole : name ≡ spread 0 (numbers target)
  whole = is ∙ spread_is target.version.major (target.version.minor ∷ target.version.patch ∷ target.id ∷ []) (omega arith)

  module _ (a : ℕ) (first : List ℕ) (one : HasNumber 118 name a first) where
    behind_major : first ≡ spread 1 (target.version.minor ∷ target.version.patch ∷ target.id ∷ [])
    behind_major = follows 0 a target.version.major (target.version.minor ∷ target.version.patch ∷ target.id ∷ []) name first fits.version.major one whole

    pub no_minor : HasNoNumber 46 first → ⊥
    no_minor none = begins 1 target.version.minor (target.version.patch ∷ target.id ∷ []) first fits.version.minor none behind_major

    module _ (b : ℕ) (second : List ℕ) (two : HasNumber 46 first b second) where
      behind_minor : second ≡ spread 2 (target.version.patch ∷ target.id ∷ [])
      behind_minor = follows 1 b target.version.minor (target.version.patch ∷ target.id ∷ []) first second fits.version.minor two behind_major

      pub no_patch : HasNoNumber 46 second → ⊥
      no_patch none = begins 2 target.version.patch (target.id ∷ []) second fits.version.patch none behind_minor

      module _ (c : ℕ) (third : List ℕ) (three : HasNumber 46 second c third) where
        behind_patch : third ≡ spread 3 (target.id ∷ [])
        behind_patch = follows 2 c target.version.patch (target.id ∷ []) second third fits.version.patch three behind_minor

        pub no_id : HasNoNumber 95 third → ⊥
        no_id none = begins 3 target.id [] third fits.id none behind_patch

        pub no_rest : (d : ℕ) (rest : List ℕ) → HasNumber 95 third d rest → rest ≡ []
        no_rest d rest four = follows 3 d target.id [] third rest fits.id four behind_patch
