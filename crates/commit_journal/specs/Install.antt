-- What the entries of a batch do to a disk while they are put in their places.
use Rattle.std.specs.Prelude.{◌≡◌, ℕ, List, [], ◌∷◌, Option, Result, OnOk}
use Rattle.outside.specs.Names.{Names}
use Rattle.outside.specs.Tree.{Tree, set_node}
use Rattle.outside.specs.History.{History, tree_of}
use Rattle.outside.specs.Since.{GoesOn, IsAt}
use Rattle.commit_journal.specs.Entries.{Entry, IsNamed}
use Rattle.commit_journal.specs.Files.{node_of}

-- The tree with each entry's node at its path.
abbrev pub installed : List Entry → Tree → Tree
installed [] tree = tree
installed (entry ∷ entries) tree = installed entries (set_node tree entry.0 (node_of entry.1))

-- One path changes, with no sync, and after Ok it is as the entry says.
pub record InstallsOne {E : Type 0} (path : Names) (bytes : Option (List ℕ)) (result : Result Unit E) (old new : History) : Type 0 where
  pub goes : GoesOn (IsAt (λ at. at ≡ path)) old new
  pub done : OnOk result (tree_of new ≡ set_node (tree_of old) path (node_of bytes))

-- The first of the entries are in their places, and only paths of all entries changed, with no sync.
pub record HasInstalled (all first : List Entry) (old new : History) : Type 0 where
  pub goes : GoesOn (IsAt (IsNamed all)) old new
  pub done : tree_of new ≡ installed first (tree_of old)

-- Only paths of the entries change, with no sync, and after Ok all of them are in their places.
pub record Installs {E : Type 0} (all : List Entry) (result : Result Unit E) (old new : History) : Type 0 where
  pub goes : GoesOn (IsAt (IsNamed all)) old new
  pub done : OnOk result (tree_of new ≡ installed all (tree_of old))
