-- Which pairs of a key and a scalar a text gives, or the first refusal.
use Rattle.std.specs.Prelude.{ℕ, List, [], ◌∷◌, ◌++◌, codes, Option, Some, None, Result, Ok, Err, ok_or, option_map, if◌then◌else◌}
use Rattle.std.specs.List.{join_with_byte}
use Rattle.key_names.specs.Key.{is_key}
use Rattle.json_trees.specs.Collected.{result_and_then, result_map}
use Rattle.json_trees.specs.declared.scalar.Scalar.{Scalar}
use Rattle.settings_tree.specs.Content.{settings_key}
use Rattle.toml.specs.Data.{Data, string, integer, float, boolean, datetime, array, table, Members, no_members, member, get_member}
use Rattle.toml_values.specs.Document.{table_of, other_name}
use Rattle.toml_values.specs.Values.{scalar_of}
use Rattle.user_data.specs.declared.user_data_error.UserDataError.{UserDataError}
use Rattle.user_data.specs.declared.user_data_error.UserDataKind.{UserDataKind}
use Rattle.user_data.specs.declared.user_data_error.UserDataKind.TheVariants.{NotToml, NotSettings, BadKey, BadValue}

-- The names that lead to an entry.
abbrev pub Path : Type 0
Path = List (List ℕ)

-- What is read: pairs of a key and a scalar, or a refusal.
abbrev pub Pairs : Type 0
Pairs = Result (List (Path × Scalar)) UserDataError

-- The names joined by `/`.
abbrev pub printed_path : Path → List ℕ
printed_path path = join_with_byte 47 path

-- The fault of this kind, at this place.
abbrev pub fault_at : UserDataKind → List ℕ → UserDataError
fault_at kind at = record { kind = kind; at = at }

-- ---- the entries below `settings`

-- The pair of a value that is at a key and is no table.
abbrev pub leaf_pairs : Path → Data → Pairs
leaf_pairs path d = ok_or (option_map (λ scalar. (path, scalar) ∷ []) (scalar_of d)) (fault_at BadValue (printed_path path))

-- The pairs of an entry, where its names are a key.
abbrev pub where_key : Path → Pairs → Pairs
where_key path pairs = if is_key path then pairs else Err (fault_at BadKey (printed_path path))

-- The pairs of one after those of the other, or the first refusal.
abbrev pub joined : Pairs → Pairs → Pairs
joined front back = result_and_then (λ xs. result_map (λ ys. xs ++ ys) back) front

-- The pairs of a value that is at a key, and of a table's members, which are below it under their names, in the table's order.
abbrev mutual
  pub value_pairs : Path → Data → Pairs
  value_pairs path (string s) = leaf_pairs path (string s)
  value_pairs path (integer z) = leaf_pairs path (integer z)
  value_pairs path (float x) = leaf_pairs path (float x)
  value_pairs path (boolean b) = leaf_pairs path (boolean b)
  value_pairs path (datetime t) = leaf_pairs path (datetime t)
  value_pairs path (array ds) = leaf_pairs path (array ds)
  value_pairs path (table ms) = members_pairs path ms

  pub members_pairs : Path → Members → Pairs
  members_pairs path no_members = Ok []
  members_pairs path (member name d ms) = joined (where_key (path ++ name ∷ []) (value_pairs (path ++ name ∷ []) d)) (members_pairs path ms)

-- ---- the document

-- The name of the table.
abbrev pub settings : List ℕ
settings = codes "settings"

-- The pairs of what is under the name `settings`: a table, or nothing.
abbrev pub settings_pairs : Option Data → Pairs
settings_pairs None = Ok []
settings_pairs (Some (table ms)) = members_pairs settings_key ms
settings_pairs (Some _) = Err (fault_at NotSettings settings)

-- The given pairs, where no name is another than `settings`.
abbrev pub where_none : Option (List ℕ) → Pairs → Pairs
where_none None pairs = pairs
where_none (Some name) pairs = Err (fault_at NotSettings name)

-- The pairs of a document. A table's names rise, so that the first name other than `settings` is the least.
abbrev pub document_pairs : Members → Pairs
document_pairs document = where_none (other_name (settings ∷ []) document) (settings_pairs (get_member settings document))

-- The pairs of a text, or its first refusal.
abbrev pub pairs_of : List ℕ → Pairs
pairs_of text = result_and_then document_pairs (ok_or (table_of text) (fault_at NotToml (codes "-")))

-- ---- for private clauses

-- The pairs of an entry: where its names are a key, those of its value.
abbrev pub entry_pairs : Path → Data → Pairs
entry_pairs path d = where_key path (value_pairs path d)
