-- What is wrong with files that represent nothing: the first path that is, said of the files alone.
use Rattle.std.specs.Prelude.{◌≡◌, ◌≢◌, ℕ, List, ◌∷◌, ◌++◌, codes, Some, None, IsSome, IsTrue, All, ⊤, if◌then◌else◌}
use Rattle.std.specs.Ordering.{is_lt}
use Rattle.outside.specs.Names.{Names, path_cmp}
use Rattle.outside.specs.Tree.{Tree, Node, file}
use Rattle.commit_journal.specs.Files.{Files, files_below}
use Rattle.key_names.specs.Key.{is_prefix, overlaps}
use Rattle.settings_tree.specs.Change.{Place}
use Rattle.settings_tree.specs.Change.{Live, Pend, TheOwed, TheImage, TheWeak}
use Rattle.settings_tree.specs.Content.{settings_key}
use Rattle.fs_datastore.specs.Places.{path_of, is_place, format_path}
use Rattle.fs_datastore.specs.Values.{Value, weak, Spells, is_for}
use Rattle.fs_datastore.specs.Stands.{node_of}

-- The two places may not both have a file: one's key is a proper prefix of the other's, in the live settings or in one transaction.
abbrev pub Clash : Place → Place → Type 0
Clash (Live key) (Live other) = (key ≢ other) × IsTrue (overlaps key other)
Clash (Pend tx key) (Pend other_tx other) = (tx ≡ other_tx) × (key ≢ other) × IsTrue (overlaps key other)
Clash _ _ = ⊥

-- A weak key begins with `settings`, and has a file of its live value.
abbrev pub HaveFiles : Files → Value → Type 0
HaveFiles files (weak keys) = All (λ key. IsTrue (is_prefix settings_key key) × IsSome (node_of files (Live key))) keys
HaveFiles files _ = ⊤

-- The bytes may be those of the place's file, after these other files.
pub record Takes (others : Files) (place : Place) (bytes : List ℕ) : Type 0 where
  pub value : Value
  pub kind : IsTrue (is_for place value)
  pub spelled : Spells bytes value
  pub apart : (other : Place) → Clash place other → node_of others other ≡ None
  pub files : HaveFiles others value

-- The node may be at the path, after these other files.
pub data Fits (others : Files) (path : Names) (node : Node) : Type 0 where
  format : path ≡ format_path → node ≡ file (codes "2") → Fits others path node
  place : (place : Place) (bytes : List ℕ) → IsTrue (is_place place) → path ≡ path_of place → node ≡ file bytes → Takes others place bytes
      → Fits others path node

-- The files at earlier paths. A key's proper prefixes have earlier paths than it, and all live values have earlier paths than `weak`.
abbrev pub before : Names → Files → Files
before path files other = if is_lt (path_cmp other path) then files other else None

-- A node is at this path below the directory, and may not be there, given what is at earlier paths.
pub record IsDamaged (files : Files) (path : Names) : Type 0 where
  pub name : List ℕ
  pub rest : Names
  pub path_is : path ≡ name ∷ rest
  pub node : Node
  pub there : files path ≡ Some node
  pub unfit : Fits (before path files) path node → ⊥

-- No path is damaged.
abbrev pub HasNoDamage : Files → Type 0
HasNoDamage files = (path : Names) → IsDamaged files path → ⊥

-- The fault of files is at this path: the first that is damaged; or else `owed` or `image`, where it is missing; or else `weak`, where it is missing in
-- format 2.
pub data IsFault (files : Files) (path : Names) : Type 0 where
  damaged : IsDamaged files path → ((earlier : Names) → IsTrue (is_lt (path_cmp earlier path)) → IsDamaged files earlier → ⊥) → IsFault files path
  no_owed : HasNoDamage files → path ≡ path_of TheOwed → files path ≡ None → IsFault files path
  no_image : HasNoDamage files → path ≡ path_of TheImage → files path ≡ None → IsSome (files (path_of TheOwed)) → IsFault files path
  no_weak : HasNoDamage files → path ≡ path_of TheWeak → files path ≡ None → IsSome (files (path_of TheOwed)) → IsSome (files (path_of TheImage))
      → IsSome (files format_path) → IsFault files path

-- The fault of the directory of a tree is at this path of the tree.
pub record IsFaultBelow (dir : Names) (tree : Tree) (path : Names) : Type 0 where
  pub below : Names
  pub path_is : path ≡ dir ++ below
  pub fault : IsFault (files_below dir tree) below
