-- What of a world is on a disk.
use Rattle.std.specs.Prelude.{◌≡◌, ◌⊎◌, ℕ, List, [], ◌∷◌, codes, Bool, true, Option}
use Rattle.std.specs.FinMap.{get}
use Rattle.outside.specs.Names.{Names, is_below}
use Rattle.outside.specs.Tree.{Tree, node_at, file_in}
use Rattle.outside.specs.History.{History, tree_of, IsSettledOn}
use Rattle.commit_journal.specs.Files as journal
use Rattle.commit_journal.specs.Files.{files_below}
use Rattle.commit_journal.specs.Stands.{TreeStandsFor, IsReady}
use Rattle.fs_datastore.specs.Stands.{Stands}
use Rattle.version_links.specs.Chain.{Resolves, found}
use Rattle.version_links.specs.declared.chain.Place.{Place}
use Rattle.settings_tree.specs.declared.held.Held.{Held}
use Rattle.settings_machine.specs.World.{Image, World, Files, is_etc}
use Rattle.settings_machine.specs.Paid.{IsDuePath}

-- The path is in the folder of the store.
abbrev pub is_store : Names → Bool
is_store path = is_below (codes "store" ∷ []) path

-- The path is in the folder of the image.
abbrev pub is_image : Names → Bool
is_image path = is_below (codes "image" ∷ []) path

-- The bytes of the file at a path, if a file is there.
abbrev pub bytes_at : Tree → Names → Option (List ℕ)
bytes_at tree path = file_in (node_at tree path)

-- The configuration files of the tree are these.
pub record HasFiles (files : Files) (tree : Tree) : Type 0 where
  pub each : (path : Names) → is_etc path ≡ true → bytes_at tree path ≡ get files path

-- A data directory of the tree represents what is held, in a format, with the journal that may be in it.
pub record HoldsIn (directory : Names) (held : Held) (format : ℕ) (tree : Tree) : Type 0 where
  pub files : journal.Files
  pub stands_for : TreeStandsFor directory files tree
  pub stands : Stands files held format

-- The store of the tree has the world's stored parts: its links lead to a data directory of the world's version, which
-- represents what the world holds, in the world's format.
pub record HasStore (W : World) (tree : Tree) : Type 0 where
  pub directory : Names
  pub resolves : Resolves tree (found W.version directory)
  pub holds : HoldsIn directory W.held W.format tree

-- A crash that leaves this tree recovers to the world: the store has the world's parts, and the configuration files are
-- the world's but for some that are due.
pub record Recovers (I : Image) (W : World) (crashed : Tree) : Type 0 where
  pub store : HasStore W crashed
  pub etc : (path : Names) → is_etc path ≡ true → (bytes_at crashed path ≡ get W.etc path) ⊎ IsDuePath I W.held path

-- The store is ready at its place: a crash leaves its paths as they are, its links lead to the place, no journal is there,
-- and the directory represents what is held in format 2.
pub record IsReadyAt (place : Place) (held : Held) (history : History) : Type 0 where
  pub settled : IsSettledOn is_store history
  pub resolves : Resolves (tree_of history) (found place.version place.directory)
  pub ready : IsReady place.directory history
  pub stands : Stands (files_below place.directory (tree_of history)) held 2
