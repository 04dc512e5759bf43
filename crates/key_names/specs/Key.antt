-- Keys as lists of segments. The byte 46 is a dot.
use Rattle.std.specs.Prelude.{ℕ, Bool, ◌||◌, ◌&&◌, nat_lt, nat_le, List, length, map}
use Rattle.std.specs.List.{list_all, starts_with, join_with_byte}
use Rattle.std.specs.Ordering.{eq_by_cmp}
use Rattle.key_names.specs.Order.{bytes_cmp}
use Rattle.key_names.specs.Segment.{is_segment, has_short_name, printed_segment}

-- The printed segments, joined by dots.
unfoldable pub printed : List (List ℕ) → List ℕ
printed segments = join_with_byte 46 (map printed_segment segments)

-- The limits: 32 segments, 127 bytes for each file name, 1,024 bytes for the printed text.
abbrev pub fits : List (List ℕ) → Bool
fits segments = (nat_le (length segments) 32 && list_all has_short_name segments) && nat_le (length (printed segments)) 1024

-- A key is one or more segments within the limits.
abbrev pub is_key : List (List ℕ) → Bool
is_key segments = (nat_lt 0 (length segments) && list_all is_segment segments) && fits segments

-- The second key begins with the segments of the first.
abbrev pub is_prefix : List (List ℕ) → List (List ℕ) → Bool
is_prefix key other = starts_with (eq_by_cmp bytes_cmp) other key

-- One of the keys is a prefix of the other.
abbrev pub overlaps : List (List ℕ) → List (List ℕ) → Bool
overlaps key other = is_prefix key other || is_prefix other key
