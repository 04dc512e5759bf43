-- The words of a tag, and the keys that they spell.
use Rattle.std.specs.Prelude.{ℕ, ◌+◌, Bool, true, false, not, ◌&&◌, ◌||◌, ◌==◌, List, [], ◌∷◌, map, filter, Option, Some, None, if◌then◌else◌, codes}
use Rattle.std.specs.List.{list_all}
use Rattle.template_reader.specs.Bytes.{begins, inside, is_space, is}
use Rattle.key_names.specs.Segment.{is_segment, is_bare, quoted}
use Rattle.key_names.specs.Key.{fits}

-- What follows the byte is inside double quotes.
abbrev pub quoted_after : Bool → ℕ → Bool
quoted_after inside b = if inside then not (b == 34) else b == 34

-- The parts with a byte before them, which separates or not.
abbrev pub part_onto : ℕ → Bool → List (List ℕ) → List (List ℕ)
part_onto b true ws = [] ∷ ws
part_onto b false [] = (b ∷ []) ∷ []
part_onto b false (w ∷ ws) = (b ∷ w) ∷ ws

-- The parts between separators outside double quotes, where the first byte is inside them or not.
unfoldable pub parts : (ℕ → Bool) → Bool → List ℕ → List (List ℕ)
parts separates inside [] = [] ∷ []
parts separates inside (b ∷ bs) = part_onto b (separates b && not inside) (parts separates (quoted_after inside b) bs)

-- How many bytes the first part has.
unfoldable pub part_length : (ℕ → Bool) → Bool → List ℕ → ℕ
part_length separates inside [] = 0
part_length separates inside (b ∷ bs) = if separates b && not inside then 0 else 1 + part_length separates (quoted_after inside b) bs

-- Some byte is there.
abbrev pub has_bytes : List ℕ → Bool
has_bytes [] = false
has_bytes (b ∷ bs) = true

-- White space outside double quotes separates words.
unfoldable pub words : List ℕ → List (List ℕ)
words bytes = filter has_bytes (parts is_space false bytes)

-- The byte is a dot.
abbrev pub is_dot : ℕ → Bool
is_dot b = b == 46

-- The bytes without the quotes that they begin and end with, if they begin with one.
abbrev pub unquoted : List ℕ → List ℕ
unquoted part = if begins part (codes "\"") then inside 1 part else part

-- The part spells a segment, in quotes or bare.
abbrev pub is_spelling : List ℕ → Bool
is_spelling part = is_segment (unquoted part) && (is part (quoted (unquoted part)) || list_all is_bare part)

-- The key that the word spells: the parts between dots outside double quotes spell its segments.
unfoldable pub key_of : List ℕ → Option (List (List ℕ))
key_of word =
    let segments = parts is_dot false word in
    if list_all is_spelling segments && fits (map unquoted segments) then Some (map unquoted segments) else None
