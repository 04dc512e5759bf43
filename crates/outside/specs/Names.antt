-- Names, and paths as lists of names.
use Rattle.std.specs.Prelude.{ℕ, List, [], ◌∷◌, length, Bool, false, ◌==◌, ◌&&◌, nat_lt, nat_le, not}
use Rattle.std.specs.declared.cmp.Ordering.{Ordering}
use Rattle.std.specs.List.{list_all, starts_with}
use Rattle.std.specs.Ordering.{nat_cmp, eq_by_cmp}
use Rattle.std.specs.Cmp.Lexicographic.{slice_cmp}

-- The names of a path, the outermost first.
abbrev pub Names : Type 0
Names = List (List ℕ)

-- Names are ordered by their bytes.
abbrev pub name_cmp : List ℕ → List ℕ → Ordering
name_cmp = slice_cmp nat_cmp

-- Paths are ordered by their names.
abbrev pub path_cmp : Names → Names → Ordering
path_cmp = slice_cmp name_cmp

-- The two names are one.
abbrev pub same_name : List ℕ → List ℕ → Bool
same_name = eq_by_cmp name_cmp

-- A byte of a name is 0x21 to 0x7E and no slash.
abbrev pub is_name_byte : ℕ → Bool
is_name_byte b = nat_le 33 b && nat_le b 126 && not (b == 47)

-- The name is `.` or `..`.
abbrev pub is_dots : List ℕ → Bool
is_dots [] = false
is_dots (a ∷ []) = a == 46
is_dots (a ∷ b ∷ []) = a == 46 && b == 46
is_dots (a ∷ b ∷ c ∷ rest) = false

-- A name has 1 to 255 bytes that a name may have, and is neither `.` nor `..`.
abbrev pub is_name : List ℕ → Bool
is_name name = nat_le 1 (length name) && nat_le (length name) 255 && list_all is_name_byte name && not (is_dots name)

-- Each of them is a name.
abbrev pub are_names : Names → Bool
are_names names = list_all is_name names

-- The second path is strictly below the first.
abbrev pub is_below : Names → Names → Bool
is_below path other = nat_lt (length path) (length other) && starts_with same_name other path
