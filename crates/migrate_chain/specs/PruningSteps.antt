-- For private clauses: files below other data directories are removed, one after another.
use Rattle.std.specs.Prelude.{◌≡◌, ℕ, List, None, codes}
use Rattle.std.specs.List.{AllByRecursion}
use Rattle.outside.specs.Names.{Names}
use Rattle.outside.specs.Tree.{node_at}
use Rattle.outside.specs.History.{History, tree_of}
use Rattle.outside.specs.Since.{Touches}
use Rattle.version_links.specs.Names.{Target, IsTarget, name_of, numbers}
use Rattle.migrate_chain.specs.Store.{IsInOther, IsLeftOver}

-- Only paths below data directories other than this one are touched.
pub record RemovesOthers (dir : Names) (old new : History) : Type 0 where
  pub touches : Touches (IsInOther dir) old new

-- The name is that of a data directory.
pub record IsDirectoryName (name : List ℕ) : Type 0 where
  pub target : Target
  pub fits : IsTarget target
  pub name_is : name ≡ name_of (numbers target)

-- The folder is `store`, and the name that of a data directory.
abbrev pub IsDirectory : List ℕ → List ℕ → Type 0
IsDirectory folder name = (folder ≡ codes "store") × IsDirectoryName name

-- Those of the paths that are below another data directory have no node, and no path has one that had none.
pub record RemovesAll (dir : Names) (paths : List Names) (old new : History) : Type 0 where
  pub touches : Touches (IsInOther dir) old new
  pub gone : AllByRecursion (λ path. IsLeftOver dir path → node_at (tree_of new) path ≡ None) paths
  pub fewer : (path : Names) → node_at (tree_of old) path ≡ None → node_at (tree_of new) path ≡ None
