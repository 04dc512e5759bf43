-- What `json` prints: the compact JSON text (RFC 8259) of a value as it is stored, in which the byte 0x7F is escaped. A text of it is so a basic
-- string of TOML too, which may not have this byte as it is, and a double-quoted scalar of YAML 1.2.
use Rattle.std.specs.Prelude.{◌≡◌, ℕ, Bool, true, false, not, ◌&&◌, ◌||◌, ◌==◌, nat_le, List, [], ◌∷◌, ◌++◌, flat_map, codes, if◌then◌else◌}
use Rattle.std.specs.List.{AllByRecursion}
use Rattle.std.specs.Str.{IsUtf8}
use Rattle.json_trees.specs.Scalar.{json_text}
use Rattle.json_trees.specs.Written.{ScalarInRange}
use Rattle.json_trees.specs.declared.item.Item.{Item}
use Rattle.json_trees.specs.declared.item.Item.TheVariants as item
use Rattle.json_trees.specs.declared.scalar.Scalar.{Scalar}
use Rattle.json_trees.specs.declared.scalar.Scalar.TheVariants as scalar

-- What is printed for a byte of a JSON text. Only in a string can this be 0x7F.
abbrev pub escaped : ℕ → List ℕ
escaped b = if b == 127 then codes "\\u007f" else b ∷ []

-- The JSON text of a value, as `json` prints it.
abbrev pub scalar_json : Scalar → List ℕ
scalar_json s = flat_map escaped (json_text s)

-- The value that an item is.
abbrev pub item_value : Item → Scalar
item_value (item.Bool b) = scalar.Bool b
item_value (item.Int z) = scalar.Int z
item_value (item.Text t) = scalar.Text t

-- ---- for the laws

-- The text of an item is UTF-8, as each text of the code is.
abbrev pub ItemIsText : Item → Type 0
ItemIsText (item.Bool b) = Unit {0}
ItemIsText (item.Int z) = Unit {0}
ItemIsText (item.Text t) = IsUtf8 t

-- Each text of the value is UTF-8, likewise.
abbrev pub HasTexts : Scalar → Type 0
HasTexts (scalar.Bool b) = Unit {0}
HasTexts (scalar.Int z) = Unit {0}
HasTexts (scalar.Text t) = IsUtf8 t
HasTexts (scalar.List items) = AllByRecursion ItemIsText items

-- What the types of the code allow: whole numbers of 64 bits, and texts of UTF-8.
pub record IsValue (s : Scalar) : Type 0 where
  pub numbers : ScalarInRange s
  pub texts : HasTexts s

-- The bytes stay between the quotes of a string, after a backslash that escapes the first or not: none is below 0x20 or 0x7F, a quote is
-- escaped, and the last byte escapes nothing.
abbrev pub stays_inside : Bool → List ℕ → Bool
stays_inside behind [] = not behind
stays_inside behind (b ∷ bs) = nat_le 32 b && not (b == 127) && (behind || not (b == 34)) && stays_inside (not behind && b == 92) bs

-- A string: two quotes, and bytes that stay between them.
pub record IsQuoted (text : List ℕ) : Type 0 where
  pub inside : List ℕ
  pub is : text ≡ 34 ∷ (inside ++ 34 ∷ [])
  pub stays : stays_inside false inside ≡ true
