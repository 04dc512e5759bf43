-- Segments, the file names under which they are stored, and their printed spelling. The byte 34 is a quote.
use Rattle.std.specs.Prelude.{◌≡◌, ◌<◌, ◌≤◌, ◌||◌, ◌&&◌, ◌==◌, ◌∷◌, ◌++◌, [], if◌then◌else◌}
use Rattle.std.specs.Prelude.{ℕ, Bool, List, IsTrue, not, nat_lt, nat_le, length}
use Rattle.std.specs.List.{flat_map, list_all}
use Rattle.std.specs.Char.{is_ascii_alphanumeric}
use Rattle.percent_encoding.specs.Percent.{percent_encode_byte}

-- `A` to `Z`, `a` to `z`, `0` to `9`, `_` and `-`.
abbrev pub is_bare : ℕ → Bool
is_bare b = is_ascii_alphanumeric b || (b == 95 || b == 45)

-- The bytes that are allowed in quotes: 0x20 to 0x7E other than `"`.
abbrev pub is_quotable : ℕ → Bool
is_quotable b = (nat_le 32 b && nat_le b 126) && not (b == 34)

-- A segment is one or more bytes that are allowed in quotes.
abbrev pub is_segment : List ℕ → Bool
is_segment bytes = nat_lt 0 (length bytes) && list_all is_quotable bytes

-- A bare character represents itself, any other byte is `%` and two upper-case hexadecimal digits.
abbrev pub glyph : ℕ → List ℕ
glyph b = if is_bare b then b ∷ [] else percent_encode_byte b

-- The file name of a segment.
unfoldable pub file_name : List ℕ → List ℕ
file_name segment = flat_map glyph segment

-- A file name has at most 127 bytes.
abbrev pub has_short_name : List ℕ → Bool
has_short_name segment = nat_le (length (file_name segment)) 127

-- The name is the file name of the segment, and has 1 to 127 bytes.
pub record IsFileNameOf (name segment : List ℕ) : Type 0 where
  pub valid : IsTrue (is_segment segment)
  pub spelled : name ≡ file_name segment
  pub some : 0 < length name
  pub short : length name ≤ 127

-- The segment in quotes.
abbrev pub quoted : List ℕ → List ℕ
quoted segment = 34 ∷ segment ++ 34 ∷ []

-- A segment is printed in quotes where it has another byte than bare characters.
abbrev pub printed_segment : List ℕ → List ℕ
printed_segment segment = if list_all is_bare segment then segment else quoted segment
