-- What a batch changes below a directory.
use Rattle.std.specs.Prelude.{◌≡◌, ◌⊎◌, ℕ, ◌^◌, nat_lt, nat_le, List, [], ◌∷◌, ◌++◌, map, length, codes, Option, Some, None, Bool, true, false, ◌&&◌}
use Rattle.std.specs.List.{list_all, list_any}
use Rattle.std.specs.Ordering.{is_lt}
use Rattle.std.specs.Str.{bytes_eq}
use Rattle.outside.specs.Names.{Names, path_cmp, are_names}

-- An entry is a path below the directory with the new bytes of its file, or with none to take the file away.
abbrev pub Entry : Type 0
Entry = Names × Option (List ℕ)

-- A change is a directory and the entries for what is below it.
pub record Changes : Type 0 where
  pub dir : Names
  pub entries : List Entry

-- The names that a path of an entry may begin with.
abbrev pub first_names : Names
first_names = codes "live" ∷ codes "pending" ∷ codes "owed" ∷ codes "image" ∷ codes "weak" ∷ []

-- The name is one of the first names.
abbrev pub is_first_name : List ℕ → Bool
is_first_name name = list_any (bytes_eq name) first_names

-- The path begins with one of the first names.
abbrev pub has_first_name : Names → Bool
has_first_name [] = false
has_first_name (name ∷ names) = is_first_name name

-- The paths rise strictly.
abbrev pub are_rising : List Entry → Bool
are_rising [] = true
are_rising (entry ∷ []) = true
are_rising (entry ∷ following ∷ entries) = is_lt (path_cmp entry.0 following.0) && are_rising (following ∷ entries)

-- The path of the entry, joined to the directory's, has at most 40 names.
abbrev pub fits_below : Names → Entry → Bool
fits_below dir entry = nat_le (length (dir ++ entry.0)) 40

-- The path is one that a journal may have: at most 38 names, the first of them from the list.
abbrev pub is_entry_path : Names → Bool
is_entry_path path = has_first_name path && (are_names path && nat_le (length path) 38)

-- The bytes, if there are any, are fewer than 2 ^ 64.
abbrev pub fits_memory : Option (List ℕ) → Bool
fits_memory None = true
fits_memory (Some bytes) = nat_lt (length bytes) (2 ^ 64)

-- The entry is one that a journal may have.
abbrev pub is_entry : Entry → Bool
is_entry entry = is_entry_path entry.0 && fits_memory entry.1

-- The entries are those of a batch: each may be in a journal, and their paths rise strictly.
abbrev pub is_batch : List Entry → Bool
is_batch entries = list_all is_entry entries && are_rising entries

-- The path is one of the entries'.
abbrev pub IsNamed : List Entry → Names → Type 0
IsNamed [] path = ⊥
IsNamed (entry ∷ entries) path = (path ≡ entry.0) ⊎ IsNamed entries path

-- The entries with their paths joined to the directory's.
abbrev pub placed : Names → List Entry → List Entry
placed dir entries = map (λ e. (dir ++ e.0, e.1)) entries
