-- The JSON tree of some pairs.
use Rattle.std.specs.Prelude.{◌≡◌, ◌<◌, ◌≤◌, ◌+◌, ◌-◌, ◌∷◌, ◌++◌, [], ℕ, IsTrue, List, map, take, drop, length, slice_index_or}
use Rattle.std.specs.Prelude.{Option, Some, None, Ok}
use Rattle.std.specs.declared.cmp.Ordering.TheVariants.{Less}
use Rattle.std.specs.List.{All, AllPairs, AllByRecursion}
use Rattle.std.specs.Map.{keys_of}
use Rattle.json.specs.Token.{Token}
use Rattle.json.specs.Tree.{MembersHaveNumbers}
use Rattle.key_names.specs.Key.{is_key}
use Rattle.serde_json.specs.Data.{Data, null, boolean, number, string, array, object, Members, no_members, member, members_depth}
use Rattle.serde_json.specs.Find.{as_object}
use Rattle.serde_json.specs.Read.{of_members}
use Rattle.serde_json.specs.Written.{members_outline, compact_text}
use Rattle.key_names.specs.Order.{bytes_cmp}
use Rattle.json_trees.specs.Apart.{Parts, Pairwise}
use Rattle.json_trees.specs.Json.{data_of}
use Rattle.json_trees.specs.Tree.{Path, flattened}
use Rattle.json_trees.specs.Written.{data_tokens, IsReadable}

-- ---- which pairs a tree is

-- The entry below a name.
abbrev pub below : List ℕ → Path × Data → Path × Data
below name entry = (name ∷ entry.0, entry.1)

-- The values of a tree that hold no others by name, in order of names, each with the names that lead to it.
abbrev mutual
  pub leaves : Data → List (Path × Data)
  leaves null = ([], null) ∷ []
  leaves (boolean b) = ([], boolean b) ∷ []
  leaves (number n) = ([], number n) ∷ []
  leaves (string s) = ([], string s) ∷ []
  leaves (array ds) = ([], array ds) ∷ []
  leaves (object no_members) = ([], object no_members) ∷ []
  leaves (object (member name d ms)) = members_leaves (member name d ms)

  pub members_leaves : Members → List (Path × Data)
  members_leaves no_members = []
  members_leaves (member name d ms) = map (below name) (leaves d) ++ members_leaves ms

-- The pairs as entries of a tree, without the first n segments of their keys.
abbrev pub nested_entries : {V : Type 0} → (V → Data) → ℕ → List (Path × V) → List (Path × Data)
nested_entries written n pairs = map (λ pair. (drop n pair.0, written pair.1)) pairs

-- The keys have more than n segments, of which the first n are the same in each.
pub record ShareFirst (n : ℕ) (keys : List Path) : Type 0 where
  pub longer : All (λ key. n < length key) keys
  pub alike : AllPairs (λ key other. take n key ≡ take n other) keys

-- The text is the compact text of a JSON object, whose leaves are the pairs without the first n segments.
-- A JSON object has its members in the byte order of their names.
pub record NestsAs {V : Type 0} (written : V → Data) (n : ℕ) (pairs : List (Path × V)) (text : List ℕ) : Type 0 where
  pub members : Members
  pub reads_as : data_of text ≡ Some (object members)
  pub leaves_are : members_leaves members ≡ nested_entries written n pairs
  pub compact : text ≡ compact_text (object members)

-- Below the first n segments of the keys the text flattens to the pairs.
abbrev pub FlattensBack : {V : Type 0} → (Data → Option V) → ℕ → List (Path × V) → List ℕ → Type 0
FlattensBack leaf n pairs text = (under : Path) → All (λ key. take n key ≡ under) (keys_of pairs) → flattened leaf under text ≡ Ok pairs

-- ---- for private clauses

-- The value is written as a JSON value that is no object and reads back as the value.
pub record IsWritable {V : Type 0} (leaf : Data → Option V) (v : V) (d : Data) : Type 0 where
  pub readable : IsReadable 1 d
  pub reads_as : leaf d ≡ Some v
  pub no_object : as_object d ≡ None

-- The name of a key at a level.
abbrev pub name_of : ℕ → Path → List ℕ
name_of level key = slice_index_or key level []

-- The name of the first key at a level.
abbrev pub first_name : ℕ → List Path → List ℕ
first_name level [] = []
first_name level (key ∷ keys) = name_of level key

-- The keys go on beyond a level, and part from each other there or later.
pub record IsNestable (level : ℕ) (keys : List Path) : Type 0 where
  pub longer : AllByRecursion (λ key. level < length key) keys
  pub parted : Pairwise Parts (map (λ key. drop level key) keys)

-- The keys have the same name at a level.
abbrev pub IsGroup : ℕ → List Path → Type 0
IsGroup level keys = AllByRecursion (λ key. name_of level key ≡ first_name level keys) keys

-- The keys' names at a level come after this one.
abbrev pub AreLater : ℕ → List ℕ → List Path → Type 0
AreLater level name keys = AllByRecursion (λ key. bytes_cmp name (name_of level key) ≡ Less) keys

-- A pair with a valid key and a value that can be written.
abbrev pub IsSound : {V : Type 0} → (Data → Option V) → (V → Data) → Path × V → Type 0
IsSound leaf written pair = IsTrue (is_key pair.0) × IsWritable leaf pair.1 (written pair.1)

-- These members read back, and their leaves are the pairs without the first n segments.
pub record IsTreeOf {V : Type 0} (leaf : Data → Option V) (written : V → Data) (n : ℕ) (pairs : List (Path × V)) (ms : Members) : Type 0 where
  pub leaves_are : members_leaves ms ≡ nested_entries written n pairs
  pub sound : AllByRecursion (IsSound leaf written) pairs
  pub reads_back : of_members (members_outline ms) no_members ≡ Some ms
  pub numbers : MembersHaveNumbers (members_outline ms)
  pub shallow : members_depth ms ≤ 32 - n

-- The value of a member whose leaves are the pairs without the first n segments and the member's name.
pub record IsBranchOf {V : Type 0} (leaf : Data → Option V) (written : V → Data) (n : ℕ) (pairs : List (Path × V)) (d : Data) : Type 0 where
  pub leaves_are : leaves d ≡ nested_entries written (n + 1) pairs
  pub sound : AllByRecursion (IsSound leaf written) pairs
  pub readable : IsReadable (32 - n) d

-- An object was written whose leaves are the pairs without the first n segments.
abbrev pub WritesTree : {V : Type 0} → (Data → Option V) → (V → Data) → ℕ → List (Path × V) → List Token → List Token → Type 0
WritesTree leaf written n pairs old new = (ms : Members) × IsTreeOf leaf written n pairs ms × (new ≡ old ++ data_tokens (object ms))

-- A member was written that has the pairs' name at a level.
abbrev pub WritesMember : {V : Type 0} → (Data → Option V) → (V → Data) → ℕ → List (Path × V) → List Token → List Token → Type 0
WritesMember leaf written n pairs old new = (d : Data) × IsBranchOf leaf written n pairs d
    × (new ≡ old ++ Token.key (first_name n (keys_of pairs)) ∷ data_tokens d)
