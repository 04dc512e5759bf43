-- The frontmatter of a source, split off by lines. The byte 10 is LF.
use Rattle.std.specs.Prelude.{ℕ, ◌+◌, Bool, true, ◌&&◌, ◌||◌, ◌==◌, min, List, [], ◌∷◌, length, take, Option, Some, None, is_some, if◌then◌else◌, codes}
use Rattle.std.specs.Str.{is_utf8}
use Rattle.toml.specs.Parse.{parse_document}
use Rattle.template_reader.specs.Bytes.{begins, more}

-- A line is at the start that is exactly `+++`, ended by LF or by the end of the source.
abbrev pub is_fence : List ℕ → Bool
is_fence bytes = begins bytes (43 ∷ 43 ∷ 43 ∷ 10 ∷ []) || (begins bytes (codes "+++") && length bytes == 3)

-- How many bytes are before the first such line, where a line begins at the first byte or not.
unfoldable pub fence_in : Bool → List ℕ → Option ℕ
fence_in starts [] = None
fence_in starts (b ∷ bs) = if starts && is_fence (b ∷ bs) then Some 0 else more 1 (fence_in (b == 10) bs)

-- How many bytes of the source are before the first line that is exactly `+++`.
unfoldable pub front_length : List ℕ → Option ℕ
front_length source = fence_in true source

-- The bytes are a TOML document.
unfoldable pub is_toml : List ℕ → Bool
is_toml bytes = is_utf8 bytes && is_some (parse_document bytes)

-- The place after that line and its LF, where the bytes before it are TOML.
abbrev pub behind_front : List ℕ → Option ℕ → Option ℕ
behind_front source None = Some 0
behind_front source (Some n) = if is_toml (take n source) then Some (min (n + 4) (length source)) else None

-- Where the body begins: at the start where there is no such line.
unfoldable pub body_start : List ℕ → Option ℕ
body_start source = behind_front source (front_length source)
