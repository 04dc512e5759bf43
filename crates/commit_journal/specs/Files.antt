-- What is below a directory, and entries laid over it.
use Rattle.std.specs.Prelude.{◌≡◌, ℕ, List, [], ◌∷◌, ◌++◌, Option, Some, None, if◌then◌else◌}
use Rattle.std.specs.Ordering.{eq_by_cmp}
use Rattle.outside.specs.Names.{Names, path_cmp}
use Rattle.outside.specs.Tree.{Node, file, Tree, node_at}
use Rattle.commit_journal.specs.Entries.{Entry}

-- Files are what is below a directory, by the paths that begin there.
abbrev pub Files : Type 0
Files = Names → Option Node

-- The files below a directory of a tree.
abbrev pub files_below : Names → Tree → Files
files_below dir tree path = node_at tree (dir ++ path)

-- The path is strictly below the directory.
abbrev pub IsBelow : Names → Names → Type 0
IsBelow dir path = (name : List ℕ) × (rest : Names) × (path ≡ dir ++ name ∷ rest)

-- The files with this node at a path, or with none there.
abbrev pub with_node : Files → Names → Option Node → Files
with_node files at node path = if eq_by_cmp path_cmp path at then node else files path

-- What an entry leaves at its path.
abbrev pub node_of : Option (List ℕ) → Option Node
node_of None = None
node_of (Some bytes) = Some (file bytes)

-- The files with the entries laid over them.
abbrev pub laid : List Entry → Files → Files
laid [] files = files
laid (entry ∷ entries) files = laid entries (with_node files entry.0 (node_of entry.1))
