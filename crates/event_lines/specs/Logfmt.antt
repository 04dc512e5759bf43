-- Lines of a word and pairs, as logfmt has them.
use Rattle.std.specs.Prelude.{◌||◌, ◌==◌, ◌++◌, ℕ, Bool, List, [], ◌∷◌, if◌then◌else◌}
use Rattle.std.specs.List.{flat_map, list_all}
use Rattle.serde_json.specs.Data.{string}
use Rattle.serde_json.specs.Written.{compact_text}
use Rattle.key_names.specs.Segment.{is_bare}

-- A name, and its value.
abbrev pub Pair : Type 0
Pair = List ℕ × List ℕ

-- Whether a byte may stand in a value without quotes: a letter, a digit, or one of `_`, `-`, `.`, `/` and `:`.
abbrev pub is_plain : ℕ → Bool
is_plain b = is_bare b || (b == 46 || (b == 47 || b == 58))

-- A value of such bytes, at least one, stands as it is, and any other as a JSON text.
abbrev pub value_text : List ℕ → List ℕ
value_text [] = compact_text (string [])
value_text (b ∷ bs) = if list_all is_plain (b ∷ bs) then b ∷ bs else compact_text (string (b ∷ bs))

-- A pair, with the space before it.
abbrev pub pair_text : Pair → List ℕ
pair_text pair = 32 ∷ pair.0 ++ 61 ∷ value_text pair.1

-- A line: its word, its pairs, and a line feed.
abbrev pub line : List ℕ → List Pair → List ℕ
line word pairs = word ++ flat_map pair_text pairs ++ 10 ∷ []
