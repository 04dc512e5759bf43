-- Names of links and data directories are names of paths.
use Rattle.std.proofs.Common.{◌≡◌, true, false, ℕ, zero, suc, ◌*◌, ◌<◌, ◌≤◌, ◌^◌, List, []}
use Rattle.std.proofs.Common.{◌∷◌, ◌++◌, length, refl, ◌∙◌, ap, ap₂, arith, length-append, IsTrue, ◌&&◌, nat_le, not}
use Rattle.std.proofs.lemmas.Bool.Decides.{nat_tests}
use Rattle.std.proofs.lemmas.Fmt.{length-decimal-le}
use Rattle.std.proofs.lemmas.List.Folds.{list_all-append}
use Rattle.std.specs.List.{list_all}
use Rattle.outside.specs.Names.{is_name_byte, is_dots, is_name}
use Rattle.version_links.specs.Names.{id_text, name_of}
use Rattle.version_links.proofs.Glyphs.{is_glyph, Glyphs, length-hex}
use Rattle.version_links.proofs.Spread.{Fit, mark, written, spread, spread_is, glyphs-written}

-- A digit may be in a name.
glyph_named : (c : ℕ) → is_glyph c ≡ true → is_name_byte c ≡ true
glyph_named c is = grind (arith, nat_tests)

-- Digits may.
glyphs_named : (xs : List ℕ) → Glyphs xs → list_all is_name_byte xs ≡ true
glyphs_named [] all = refl
glyphs_named (x ∷ xs) all = ap₂ (λ a b. a && b) (glyph_named x all.0) (glyphs_named xs all.1)

-- So may marks.
mark_named : (k : ℕ) → is_name_byte (mark k) ≡ true
mark_named zero = refl
mark_named (suc zero) = refl
mark_named (suc (suc zero)) = refl
mark_named (suc (suc (suc k))) = refl

length-id : (n : ℕ) → length (id_text n) ≡ 16
unfolding id_text
length-id n = length-hex 16 n

-- A number has at most 20 digits.
length-written : (k n : ℕ) → n < 2 ^ 64 → length (written k n) ≤ 20
length-written zero n below = length-decimal-le 20 n (omega arith) (omega arith) below
length-written (suc zero) n below = length-decimal-le 20 n (omega arith) (omega arith) below
length-written (suc (suc zero)) n below = length-decimal-le 20 n (omega arith) (omega arith) below
length-written (suc (suc (suc k))) n below = let e = length-id n in omega arith

length-spread : (k : ℕ) (ns : List ℕ) → Fit ns → length (spread k ns) ≤ 21 * length ns
length-spread k [] fits = omega arith
length-spread k (n ∷ ns) fits =
    let e = length-append (written k n) (spread (suc k) ns) in
    let first = length-written k n fits.0 in
    let rest = length-spread (suc k) ns fits.1 in
    omega arith

spread_named : (k : ℕ) (ns : List ℕ) → Fit ns → list_all is_name_byte (spread k ns) ≡ true
spread_named k [] fits = refl
spread_named k (n ∷ ns) fits =
    ap₂ (λ a b. a && b) (mark_named k)
    (list_all-append is_name_byte (written k n) (spread (suc k) ns) ∙ ap₂ (λ a b. a && b) (glyphs_named (written k n) (glyphs-written k n fits.0))
    (spread_named (suc k) ns fits.1))

-- What begins with `v` is no dots.
no_dots : (xs : List ℕ) → is_dots (118 ∷ xs) ≡ false
no_dots [] = refl
no_dots (x ∷ []) = refl
no_dots (x ∷ y ∷ xs) = refl

v_named : (xs : List ℕ) → length xs ≤ 254 → list_all is_name_byte (118 ∷ xs) ≡ true → is_name (118 ∷ xs) ≡ true
v_named xs few all = let dots = no_dots xs in let most : nat_le (length (118 ∷ xs)) 255 ≡ true = grind (arith, nat_tests) in
    let least : nat_le 1 (length (118 ∷ xs)) ≡ true = grind (arith, nat_tests) in
    ap₂ (λ a b. a && b) (ap₂ (λ a b. a && b) (ap₂ (λ a b. a && b) least most) all) (ap not dots)

spread_valid : (n : ℕ) (ns : List ℕ) → length ns ≤ 3 → Fit (n ∷ ns) → is_name (spread 0 (n ∷ ns)) ≡ true
spread_valid n ns few fits = let size = length-spread 0 (n ∷ ns) fits in v_named (written 0 n ++ spread 1 ns) (omega arith) (spread_named 0 (n ∷ ns) fits)

-- A name with numbers is a name of a path.
pub valid : (n : ℕ) (ns : List ℕ) → length ns ≤ 3 → Fit (n ∷ ns) → (text : List ℕ) → text ≡ name_of (n ∷ ns) → IsTrue (is_name text)
valid n ns few fits text is = ap is_name (is ∙ spread_is n ns few) ∙ spread_valid n ns few fits
