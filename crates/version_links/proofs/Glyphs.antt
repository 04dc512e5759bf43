-- Digits, and where they end in a text.
use Rattle.std.proofs.Common.{◌≡◌, true, false, ℕ, zero, suc, ◌+◌, ◌/◌, ◌%◌, ◌<◌, ◌^◌, List, [], ◌∷◌, ◌++◌, length, refl, sym, ◌∙◌, ap, arith, length-append}
use Rattle.std.proofs.lemmas.Bool.{false≢true}
use Rattle.std.proofs.lemmas.Bool.Decides.{nat_tests}
use Rattle.std.proofs.lemmas.Fmt.{decimal_by_steps}
use Rattle.std.specs.Fmt.{decimal, digit_glyph}
use Rattle.version_links.specs.Names.{hex}
pub use Rattle.version_links.specs.Glyphs.{is_glyph, Glyphs, Ends}

pub glyphs-append : (xs ys : List ℕ) → Glyphs xs → Glyphs ys → Glyphs (xs ++ ys)
glyphs-append [] ys one two = two
glyphs-append (x ∷ xs) ys one two = (one.0, glyphs-append xs ys one.1 two)

-- A decimal digit.
small_glyph : (n : ℕ) → n < 10 → is_glyph (48 + n) ≡ true
small_glyph n below = grind (arith, nat_tests)

-- A hexadecimal digit.
hex_glyph : (n : ℕ) → n < 16 → is_glyph (digit_glyph false n) ≡ true
hex_glyph n below = grind (arith, nat_tests)

-- Which is one of one number.
glyph_same : (m n : ℕ) → m < 16 → n < 16 → digit_glyph false m ≡ digit_glyph false n → m ≡ n
glyph_same m n one two same = grind (arith, nat_tests)

pub glyphs-decimal : (n : ℕ) → n < 2 ^ 64 → Glyphs (decimal n)
glyphs-decimal n below = decimal_by_steps (λ k ds. Glyphs ds) (λ k small. (small_glyph k small, tt))
    (λ k ds large all. glyphs-append ds ((48 + k % 10) ∷ []) all (small_glyph (k % 10) (omega arith), tt)) n below

pub glyphs-hex : (count n : ℕ) → Glyphs (hex count n)
glyphs-hex zero n = tt
glyphs-hex (suc count) n = glyphs-append (hex count (n / 16)) (digit_glyph false (n % 16) ∷ []) (glyphs-hex count (n / 16))
    (hex_glyph (n % 16) (omega arith), tt)

pub length-hex : (count n : ℕ) → length (hex count n) ≡ count
length-hex zero n = refl
length-hex (suc count) n = let e = length-append (hex count (n / 16)) (digit_glyph false (n % 16) ∷ []) in let h = length-hex count (n / 16) in omega arith

-- Lists with one more at the end are one in both parts.
ends_same : (xs ys : List ℕ) (x y : ℕ) → length xs ≡ length ys → xs ++ x ∷ [] ≡ ys ++ y ∷ [] → (xs ≡ ys) × (x ≡ y)
ends_same [] [] x y size same = (refl, cc)
ends_same [] (y ∷ ys) a b size same = absurd (omega arith)
ends_same (x ∷ xs) [] a b size same = absurd (omega arith)
ends_same (x ∷ xs) (y ∷ ys) a b size same = let rest : xs ++ a ∷ [] ≡ ys ++ b ∷ [] = cc in let head : x ≡ y = cc in let more =
    ends_same xs ys a b (omega arith) rest in (cc, more.1)

-- The digits are those of one number.
pub hex_same : (count m n : ℕ) → m < 16 ^ count → n < 16 ^ count → hex count m ≡ hex count n → m ≡ n
hex_same zero m n one two same = omega arith
hex_same (suc count) m n one two same =
    let parts = ends_same (hex count (m / 16)) (hex count (n / 16)) (digit_glyph false (m % 16)) (digit_glyph false (n % 16))
    (length-hex count (m / 16) ∙ sym (length-hex count (n / 16))) same in
    let high = hex_same count (m / 16) (n / 16) (grind arith) (grind arith) parts.0 in
    let low = glyph_same (m % 16) (n % 16) (omega arith) (omega arith) parts.1 in
    omega arith

-- Digits up to where they end are the same on both sides.
pub same_runs : (xs ys p q : List ℕ) → Glyphs xs → Glyphs ys → Ends p → Ends q → xs ++ p ≡ ys ++ q → (xs ≡ ys) × (p ≡ q)
same_runs [] [] p q one two ends stops same = (refl, same)
same_runs [] (y ∷ ys) [] q one two ends stops same = cc
same_runs [] (y ∷ ys) (c ∷ p) q one two ends stops same = let head : c ≡ y = cc in absurd (false≢true (sym ends ∙ ap is_glyph head ∙ two.0))
same_runs (x ∷ xs) [] p [] one two ends stops same = cc
same_runs (x ∷ xs) [] p (c ∷ q) one two ends stops same = let head : x ≡ c = cc in absurd (false≢true (sym stops ∙ ap is_glyph (sym head) ∙ one.0))
same_runs (x ∷ xs) (y ∷ ys) p q one two ends stops same =
    let head : x ≡ y = cc in
    let rest : xs ++ p ≡ ys ++ q = cc in
    let more = same_runs xs ys p q one.1 two.1 ends stops rest in
    (cc, more.1)
