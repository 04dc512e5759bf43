-- Segments as one text, with a zero byte between two.
use Rattle.std.specs.Prelude.{ℕ, Bool, true, false, List, [], ◌∷◌, ◌++◌, ◌==◌, ◌&&◌, ◌||◌, if◌then◌else◌, length}
use Rattle.std.specs.List.{slice_split, list_all}
use Rattle.key_names.specs.Segment.{is_bare, is_segment}

-- The parts of a text between zero bytes.
abbrev pub parts : List ℕ → List (List ℕ)
parts = slice_split (λ b. b == 0)

-- The segments of a text: its parts, none of an empty one.
abbrev pub segments_of : List ℕ → List (List ℕ)
segments_of [] = []
segments_of (b ∷ text) = parts (b ∷ text)

-- The text with a segment more.
abbrev pub longer : List ℕ → List ℕ → List ℕ
longer [] segment = segment
longer (b ∷ text) segment = (b ∷ text) ++ 0 ∷ segment

-- Each part has bare characters alone.
abbrev pub has_bare_parts : List ℕ → Bool
has_bare_parts = list_all (λ b. b == 0 || is_bare b)

-- A dot for a zero byte, and else the byte itself.
abbrev pub dotted : ℕ → ℕ
dotted b = if b == 0 then 46 else b

-- They are so many, and each is a segment.
abbrev pub are_packed : ℕ → List ℕ → Bool
are_packed count text = count == length (segments_of text) && list_all is_segment (segments_of text)

-- The second text begins with the first, which ends there or before a zero byte.
abbrev pub leads : List ℕ → List ℕ → Bool
leads [] [] = true
leads [] (y ∷ b) = y == 0
leads (x ∷ a) [] = false
leads (x ∷ a) (y ∷ b) = x == y && leads a b
