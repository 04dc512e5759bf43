-- The entries of a table, depth first.
use Rattle.std.specs.Prelude.{ℕ, Bool, true, false, List, [], ◌∷◌, ◌++◌, Option, Some, None}
use Rattle.toml.specs.Data.{Data, string, integer, float, boolean, datetime, array, table, Members, no_members, member}
use Rattle.json_trees.specs.declared.scalar.Scalar.{Scalar}
use Rattle.toml_values.specs.Values.{scalar_of}
use Rattle.model_file.specs.declared.found.Found.{Found}
use Rattle.model_file.specs.declared.found.Found.TheVariants as found

-- The names that lead to an entry.
abbrev pub Path : Type 0
Path = List (List ℕ)

-- A value that is a scalar, or another that is no table.
abbrev pub value_found : Option Scalar → Found
value_found (Some scalar) = found.Value scalar
value_found None = found.Other

-- What is found at an entry.
abbrev pub found_of : Data → Found
found_of (string s) = value_found (scalar_of (string s))
found_of (integer z) = value_found (scalar_of (integer z))
found_of (float x) = value_found (scalar_of (float x))
found_of (boolean b) = value_found (scalar_of (boolean b))
found_of (datetime d) = value_found (scalar_of (datetime d))
found_of (array ds) = value_found (scalar_of (array ds))
found_of (table ms) = found.Table

-- What is below a path, in the table's order: each entry directly before those below it.
abbrev mutual
  pub entries : Path → Data → List (Path × Found)
  entries path (string s) = []
  entries path (integer z) = []
  entries path (float x) = []
  entries path (boolean b) = []
  entries path (datetime d) = []
  entries path (array ds) = []
  entries path (table ms) = members_entries path ms

  pub members_entries : Path → Members → List (Path × Found)
  members_entries path no_members = []
  members_entries path (member name d ms) = (path ++ name ∷ [], found_of d) ∷ entries (path ++ name ∷ []) d ++ members_entries path ms

-- The scalar that is found, if one is.
abbrev pub scalar_found : Found → Option Scalar
scalar_found found.Table = None
scalar_found (found.Value scalar) = Some scalar
scalar_found found.Other = None

-- A table or a scalar is found.
abbrev pub is_fit : Found → Bool
is_fit found.Table = true
is_fit (found.Value scalar) = true
is_fit found.Other = false

-- A table is found.
abbrev pub has_table : Found → Bool
has_table found.Table = true
has_table (found.Value scalar) = false
has_table found.Other = false
