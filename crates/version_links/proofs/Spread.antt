-- Names as marks with digits after them, and what they tell.
use Rattle.std.proofs.Common.{◌≡◌, ℕ, zero, suc, ◌<◌, ◌≤◌, ◌^◌, List, [], ◌∷◌, ◌++◌, length, codes, refl, sym, ◌∙◌, ap, arith, append_assoc}
use Rattle.std.proofs.lemmas.Fmt.{decimal_injective}
use Rattle.std.proofs.lemmas.List.{append-nil}
use Rattle.std.specs.Fmt.{decimal}
use Rattle.version_links.specs.Names.{id_text, name_of}
use Rattle.version_links.proofs.Glyphs.{Glyphs, Ends, glyphs-decimal, glyphs-hex, hex_same, same_runs}

-- The mark before a number, by how many numbers are before it.
abbrev pub mark : ℕ → ℕ
mark zero = 118
mark (suc zero) = 46
mark (suc (suc zero)) = 46
mark (suc (suc (suc k))) = 95

-- The digits of a number, by how many numbers are before it.
abbrev pub written : ℕ → ℕ → List ℕ
written zero n = decimal n
written (suc zero) n = decimal n
written (suc (suc zero)) n = decimal n
written (suc (suc (suc k))) n = id_text n

abbrev pub spread : ℕ → List ℕ → List ℕ
spread k [] = []
spread k (n ∷ ns) = mark k ∷ (written k n ++ spread (suc k) ns)

-- Each number is below 2 ^ 64.
abbrev pub Fit : List ℕ → Type 0
Fit [] = Unit {0}
Fit (n ∷ ns) = (n < 2 ^ 64) × Fit ns

pub spread_is : (n : ℕ) (ns : List ℕ) → length ns ≤ 3 → name_of (n ∷ ns) ≡ spread 0 (n ∷ ns)
spread_is a [] size = ap (λ (l : List ℕ). 118 ∷ l) (sym (append-nil (decimal a)))
spread_is a (b ∷ []) size = simp (append-nil) refl
spread_is a (b ∷ c ∷ []) size = simp (append_assoc, append-nil) refl
spread_is a (b ∷ c ∷ d ∷ []) size = simp (append_assoc, append-nil) refl
spread_is a (b ∷ c ∷ d ∷ e ∷ more) size = absurd (omega arith)

pub glyphs-id : (n : ℕ) → Glyphs (id_text n)
unfolding id_text
glyphs-id n = glyphs-hex 16 n

id_same : (m n : ℕ) → m < 2 ^ 64 → n < 2 ^ 64 → id_text m ≡ id_text n → m ≡ n
unfolding id_text
id_same m n one two same = hex_same 16 m n one two same

pub glyphs-written : (k n : ℕ) → n < 2 ^ 64 → Glyphs (written k n)
glyphs-written zero n below = glyphs-decimal n below
glyphs-written (suc zero) n below = glyphs-decimal n below
glyphs-written (suc (suc zero)) n below = glyphs-decimal n below
glyphs-written (suc (suc (suc k))) n below = glyphs-id n

written_same : (k m n : ℕ) → m < 2 ^ 64 → n < 2 ^ 64 → written k m ≡ written k n → m ≡ n
written_same zero m n one two same = decimal_injective m n one two same
written_same (suc zero) m n one two same = decimal_injective m n one two same
written_same (suc (suc zero)) m n one two same = decimal_injective m n one two same
written_same (suc (suc (suc k))) m n one two same = id_same m n one two same

pub ends-spread : (k : ℕ) (ns : List ℕ) → Ends (spread k ns)
ends-spread k [] = tt
ends-spread zero (n ∷ ns) = refl
ends-spread (suc zero) (n ∷ ns) = refl
ends-spread (suc (suc zero)) (n ∷ ns) = refl
ends-spread (suc (suc (suc k))) (n ∷ ns) = refl

spread_same : (k : ℕ) (xs ys : List ℕ) → Fit xs → Fit ys → spread k xs ≡ spread k ys → xs ≡ ys
spread_same k [] [] one two same = refl
spread_same k [] (y ∷ ys) one two same = cc
spread_same k (x ∷ xs) [] one two same = cc
spread_same k (x ∷ xs) (y ∷ ys) one two same =
    let tails : written k x ++ spread (suc k) xs ≡ written k y ++ spread (suc k) ys = cc in
    let parts = same_runs (written k x) (written k y) (spread (suc k) xs) (spread (suc k) ys) (glyphs-written k x one.0) (glyphs-written k y two.0)
    (ends-spread (suc k) xs) (ends-spread (suc k) ys) tails in
    let head = written_same k x y one.0 two.0 parts.0 in
    let more = spread_same (suc k) xs ys one.1 two.1 parts.1 in
    cc

-- The first byte.
front : List ℕ → ℕ
front [] = 0
front (c ∷ cs) = c

-- `current` is no other name.
not_current : (text : List ℕ) → codes "current" ≡ 118 ∷ text → ⊥
unfolding front
not_current text same = let e : ◌≡◌ {A = ℕ} 99 118 = ap front same in absurd (omega (arith, e))

-- A name is that of one list of numbers.
pub name_same : (xs ys : List ℕ) → length xs ≤ 4 → length ys ≤ 4 → Fit xs → Fit ys → name_of xs ≡ name_of ys → xs ≡ ys
name_same [] [] few little one two same = refl
name_same [] (y ∷ ys) few little one two same = absurd (not_current _ (same ∙ spread_is y ys (omega arith)))
name_same (x ∷ xs) [] few little one two same = absurd (not_current _ (sym same ∙ spread_is x xs (omega arith)))
name_same (x ∷ xs) (y ∷ ys) few little one two same = spread_same 0 (x ∷ xs) (y ∷ ys) one two
    (sym (spread_is x xs (omega arith)) ∙ same ∙ spread_is y ys (omega arith))
