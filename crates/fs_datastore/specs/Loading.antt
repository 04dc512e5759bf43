-- For private clauses: a data directory is read, file by file.
use Rattle.std.specs.Prelude.{◌≡◌, ◌++◌, List, length, Bool, true, false, if◌then◌else◌, Option, Some, None, MatchOption}
use Rattle.std.specs.List.{list_any}
use Rattle.std.specs.Ordering.{eq_by_cmp}
use Rattle.outside.specs.Names.{Names, path_cmp}
use Rattle.outside.specs.Tree.{Node, Tree, paths_below}
use Rattle.outside.specs.History.{History, tree_of}
use Rattle.commit_journal.specs.Files.{Files, files_below, with_node}
use Rattle.fs_datastore.specs.Damage.{Fits, IsFaultBelow}
use Rattle.fs_datastore.specs.FoundFiles.{Says, StaysRuled, no_files}
use Rattle.fs_datastore.specs.declared.found.Found.{Found}

-- What is at the path is read with the others, or is a node that may not come after them.
abbrev pub ReadsNode : Names → Option Node → Found → Found → Bool → Type 0
ReadsNode path node old new true = StaysRuled old new × ((others : Files) → Says others old → Says (with_node others path node) new)
ReadsNode path node old new false = (others : Files) → Says others old → (n : Node) → node ≡ Some n → Fits others path n → ⊥

-- The files below the directory at these paths of the tree.
abbrev pub only : Names → List Names → Files → Files
only dir paths files q = if list_any (eq_by_cmp path_cmp (dir ++ q)) paths then files q else None

-- The files at these paths were read.
pub record SaidSoFar (dir : Names) (tree : Tree) (done : List Names) (found : Found) : Type 0 where
  pub says : Says (only dir done (files_below dir tree)) found

-- Where the paths are those below a directory of two names and nothing was read before, the files at the first of them were read.
pub record ReadsFirst (paths done : List Names) (old new : Found) (history : History) : Type 0 where
  pub read : (dir : Names) → length dir ≡ 2 → paths ≡ paths_below dir (tree_of history) → Says no_files old → SaidSoFar dir (tree_of history) done new

-- In the same way all files were read, or the path is the fault of the directory.
pub record FindsFault (paths : List Names) (old new : Found) (fault : Option Names) (history : History) : Type 0 where
  pub found : (dir : Names) → length dir ≡ 2 → paths ≡ paths_below dir (tree_of history) → Says no_files old
      → MatchOption fault (Says (files_below dir (tree_of history)) new) (IsFaultBelow dir (tree_of history))
