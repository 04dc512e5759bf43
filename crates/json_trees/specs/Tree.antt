-- JSON trees: what is in them, which names lead there, and which pairs they are.
use Rattle.std.specs.Prelude.{◌≡◌, ℕ, List, [], ◌∷◌, ◌++◌, Option, Some, Result, Ok, Err, ok_or, option_map, unwrap_or, if◌then◌else◌}
use Rattle.std.specs.Borrow.{Bor}
use Rattle.std.specs.Option.{option_copied}
use Rattle.std.specs.Result.{result_ok}
use Rattle.key_names.specs.Key.{is_key}
use Rattle.key_names.specs.declared.key_error.KeyFault.{KeyFault}
use Rattle.key_names.specs.declared.key_error.KeyFault.TheVariants as key_fault
use Rattle.serde_json.specs.Data.{Data, null, boolean, number, string, array, object, Members, no_members, member}
use Rattle.json_trees.specs.Collected.{result_and_then, gathered}
use Rattle.json_trees.specs.Json.{data_of}
use Rattle.json_trees.specs.Scalar.{scalar_of, scalar_data}
use Rattle.json_trees.specs.declared.pending.Pending.{Pending}
use Rattle.json_trees.specs.declared.pending.Pending.TheVariants.{Put, Gone}
use Rattle.json_trees.specs.declared.scalar.Scalar.{Scalar}
use Rattle.json_trees.specs.declared.tree_error.TreeError.{TreeError}
use Rattle.json_trees.specs.declared.tree_error.TreeError.TheVariants.{NotJson, NotObject, BadKey, BadValue, Memory}

-- A list of names.
abbrev pub Path : Type 0
Path = List (List ℕ)

-- The segments of a key, or none where none is given.
abbrev pub path_of : Option (Bor Path) → Path
path_of key = unwrap_or (option_copied key) []

-- ---- leaves

-- The scalar that a JSON value is, if it is one.
abbrev pub scalar_leaf : Data → Option Scalar
scalar_leaf d = result_ok (scalar_of d)

-- In a patch `null` is a removal.
abbrev pub pending_leaf : Data → Option Pending
pending_leaf null = Some Gone
pending_leaf d = option_map Put (scalar_leaf d)

-- The JSON value of a pending value.
abbrev pub pending_data : Pending → Data
pending_data (Put scalar) = scalar_data scalar
pending_data Gone = null

-- ---- a tree flattened

-- What is below a path, in order of names: each value, directly before what is below it.
abbrev mutual
  pub entries : Path → Data → List (Path × Data)
  entries path null = []
  entries path (boolean b) = []
  entries path (number n) = []
  entries path (string s) = []
  entries path (array ds) = []
  entries path (object ms) = members_entries path ms

  pub members_entries : Path → Members → List (Path × Data)
  members_entries path no_members = []
  members_entries path (member name d ms) = (path ++ name ∷ [], d) ∷ entries (path ++ name ∷ []) d ++ members_entries path ms

-- The pair of a leaf; an object gives none.
abbrev pub leaf_pairs : {V : Type 0} → (Data → Option V) → Path → Data → Result (List (Path × V)) TreeError
leaf_pairs leaf path (object ms) = Ok []
leaf_pairs leaf path d = ok_or (option_map (λ v. (path, v) ∷ []) (leaf d)) BadValue

-- The pairs that an entry gives, where its path is a key.
abbrev pub entry_pairs : {V : Type 0} → (Data → Option V) → Path × Data → Result (List (Path × V)) TreeError
entry_pairs leaf entry = if is_key entry.0 then leaf_pairs leaf entry.0 entry.1 else Err BadKey

-- The pairs of the entries below a path, or the refusal of the first bad entry.
abbrev pub members_pairs : {V : Type 0} → (Data → Option V) → Path → Members → Result (List (Path × V)) TreeError
members_pairs leaf path ms = gathered (entry_pairs leaf) (members_entries path ms)

-- The pairs of a JSON value that is at a path.
abbrev pub tree_pairs : {V : Type 0} → (Data → Option V) → Path → Data → Result (List (Path × V)) TreeError
tree_pairs leaf path (object ms) = members_pairs leaf path ms
tree_pairs leaf path d = Err NotObject

-- The pairs of a JSON text that is at a path.
abbrev pub flattened : {V : Type 0} → (Data → Option V) → Path → List ℕ → Result (List (Path × V)) TreeError
flattened leaf path text = result_and_then (tree_pairs leaf path) (ok_or (data_of text) NotJson)

-- ---- for private clauses

-- A fault of a key is a bad key, unless it is out of memory.
abbrev pub refusal_of : KeyFault → TreeError
refusal_of key_fault.Memory = Memory
refusal_of _ = BadKey

-- The pairs of a JSON value that is at a key: its own, or those of the entries below it.
abbrev pub value_pairs : {V : Type 0} → (Data → Option V) → Path → Data → Result (List (Path × V)) TreeError
value_pairs leaf path (object ms) = members_pairs leaf path ms
value_pairs leaf path d = leaf_pairs leaf path d

-- These pairs, with no refusal among them, were appended.
pub record Appends {V : Type 0} (pairs : Result (List (Path × V)) TreeError) (old new : List (Path × V)) : Type 0 where
  pub found : List (Path × V)
  pub none_refused : pairs ≡ Ok found
  pub appended : new ≡ old ++ found
