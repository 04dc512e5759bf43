-- The stored part of the world: what a tree's store holds.
use Rattle.std.specs.Prelude.{ℕ}
use Rattle.outside.specs.Names.{Names}
use Rattle.outside.specs.Tree.{Tree}
use Rattle.outside.specs.History.{History, tree_of, IsSettled}
use Rattle.commit_journal.specs.Files.{files_below}
use Rattle.commit_journal.specs.Stands.{IsReady}
use Rattle.settings_tree.specs.declared.held.Held.{Held}
use Rattle.fs_datastore.specs.Stands.{Stands}
use Rattle.machine_disk.specs.Store.{HoldsIn}
use Rattle.version_links.specs.declared.version.Version.{Version}
use Rattle.version_links.specs.Chain.{found, Resolves}

-- The stored part of a world: the version and the data directory that the links lead to, the directory's format, and what is held.
pub record World : Type 0 where
  pub version : Version
  pub directory : Names
  pub format : ℕ
  pub held : Held

-- The tree's store holds this world.
pub record HasWorld (world : World) (tree : Tree) : Type 0 where
  pub links : Resolves tree (found world.version world.directory)
  pub holds : HoldsIn world.directory world.held world.format tree

-- The disk is at rest in this world: its tree holds it, without a journal, and a crash leaves the tree.
pub record IsAtRest (world : World) (history : History) : Type 0 where
  pub links : Resolves (tree_of history) (found world.version world.directory)
  pub means : Stands (files_below world.directory (tree_of history)) world.held world.format
  pub ready : IsReady world.directory history
  pub settled : IsSettled history
