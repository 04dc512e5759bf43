-- The names of the links and data directories of the store.
use Rattle.std.specs.Prelude.{Bool, false, ℕ, zero, suc, ◌/◌, ◌%◌, ◌^◌, ◌<◌, List, [], ◌∷◌, ◌++◌, codes}
use Rattle.std.specs.Fmt.{decimal, digit_glyph}
use Rattle.std.specs.Str.{bytes_eq}
use Rattle.outside.specs.Names.{Names}
use Rattle.version_links.specs.declared.version.Version.{Version}
use Rattle.version_links.specs.Versions.{Fits}

-- The last so many lower-case hexadecimal digits of a number.
abbrev pub hex : ℕ → ℕ → List ℕ
hex zero n = []
hex (suc count) n = hex count (n / 16) ++ digit_glyph false (n % 16) ∷ []

-- An id is its 16 lower-case hexadecimal digits.
unfoldable pub id_text : ℕ → List ℕ
id_text id = hex 16 id

-- A major version's link is named `v` and the number.
abbrev pub major_name : ℕ → List ℕ
major_name a = 118 ∷ decimal a

-- A minor version's link is named by its major's, a dot and the number.
abbrev pub minor_name : ℕ → ℕ → List ℕ
minor_name a b = major_name a ++ 46 ∷ decimal b

-- A version's link is named by its minor's, a dot and the number.
abbrev pub patch_name : ℕ → ℕ → ℕ → List ℕ
patch_name a b c = minor_name a b ++ 46 ∷ decimal c

-- A data directory is named by its version's link, a `_` and an id of 16 lower-case hexadecimal digits.
abbrev pub directory_name : ℕ → ℕ → ℕ → ℕ → List ℕ
directory_name a b c id = patch_name a b c ++ 95 ∷ id_text id

-- The name with these numbers, of which one with no number is `current`.
abbrev pub name_of : List ℕ → List ℕ
name_of [] = codes "current"
name_of (a ∷ []) = major_name a
name_of (a ∷ b ∷ []) = minor_name a b
name_of (a ∷ b ∷ c ∷ []) = patch_name a b c
name_of (a ∷ b ∷ c ∷ id ∷ more) = directory_name a b c id

-- A path of the store is the folder `store` and a name.
abbrev pub store : List ℕ → Names
store name = codes "store" ∷ name ∷ []

-- The path is in the folder `store`, as the links and data directories are.
abbrev pub is_in_store : Names → Bool
is_in_store [] = false
is_in_store (folder ∷ []) = false
is_in_store (folder ∷ name ∷ []) = bytes_eq folder (codes "store")
is_in_store (folder ∷ name ∷ below ∷ more) = false

-- A data directory is named by its version and its id.
pub record Target : Type 0 where
  pub version : Version
  pub id : ℕ

-- The numbers of the version and the id are below 2 ^ 64.
pub record IsTarget (target : Target) : Type 0 where
  pub version : Fits target.version
  pub id : target.id < 2 ^ 64

-- The four numbers of a data directory.
abbrev pub numbers : Target → List ℕ
numbers target = target.version.major ∷ target.version.minor ∷ target.version.patch ∷ target.id ∷ []

-- The path of a data directory.
abbrev pub directory : Target → Names
directory target = store (name_of (numbers target))
