-- Digits, and where they end in a text.
use Rattle.std.specs.Prelude.{◌≡◌, ◌<◌, ◌^◌, true, false, Bool, ℕ, List, [], ◌∷◌, ◌++◌, ◌&&◌, ◌||◌, nat_le}
use Rattle.version_links.specs.Steps.{digits_behind}

-- A decimal or a lower-case hexadecimal digit.
abbrev pub is_glyph : ℕ → Bool
is_glyph c = nat_le 48 c && nat_le c 57 || nat_le 97 c && nat_le c 102

-- Each byte is such a digit.
abbrev pub Glyphs : List ℕ → Type 0
Glyphs [] = Unit {0}
Glyphs (c ∷ cs) = (is_glyph c ≡ true) × Glyphs cs

-- The text is empty, or no digit is its first byte.
abbrev pub Ends : List ℕ → Type 0
Ends [] = Unit {0}
Ends (c ∷ cs) = is_glyph c ≡ false

-- The text begins with the mark and the digits of this number, and goes on with the rest.
pub record HasNumber (mark : ℕ) (text : List ℕ) (n : ℕ) (rest : List ℕ) : Type 0 where
  pub fits : n < 2 ^ 64
  pub text_is : text ≡ mark ∷ (digits_behind mark n ++ rest)
  pub ends : Ends rest

-- The text does not begin so.
abbrev pub HasNoNumber : ℕ → List ℕ → Type 0
HasNoNumber mark text = (n : ℕ) (rest : List ℕ) → HasNumber mark text n rest → ⊥
