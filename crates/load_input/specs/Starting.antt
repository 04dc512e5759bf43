-- How a load run starts: an image on a disk, and a store that is begun and opened.
use Rattle.std.specs.Prelude.{◌≡◌, List, [], ◌∷◌, ℕ, Ok, false}
use Rattle.outside.specs.Names.{Names}
use Rattle.outside.specs.History.{History, begun}
use Rattle.outside.specs.PathText.{path_of}
use Rattle.disk_memory.specs.Nodes.{tree_of_last}
use Rattle.disk_memory.specs.declared.node.Node.{Node}
use Rattle.disk_memory.specs.declared.node.Node.TheVariants as node
use Rattle.version_links.specs.declared.version.Version.{Version}
use Rattle.settings_machine.specs.Events.{new_held}
use Rattle.settings_machine.specs.World.{Idle}
use Rattle.store_open.specs.Beginning.{Begins}
use Rattle.store_open.specs.Opening.{Opens}
use Rattle.store_open.specs.declared.opened.Opened.{Opened}
use Rattle.api_core.specs.Cores.{core_state}
use Rattle.api_core.specs.declared.serving.Core.{Core}
use Rattle.load_input.specs.Image.{File, image_files}

-- The node represents the file: at its path, with its bytes.
pub record IsNodeOf (f : File) (at : Names × Node) : Type 0 where
  pub path : path_of f.0 ≡ Ok at.0
  pub bytes : at.1 ≡ node.File f.1

-- A node for each file.
abbrev pub AreNodesOf : List File → List (Names × Node) → Type 0
AreNodesOf [] [] = Unit {0}
AreNodesOf (f ∷ fs) (n ∷ ns) = IsNodeOf f n × AreNodesOf fs ns
AreNodesOf _ _ = ⊥

-- Nothing is on the disk but the image for so many settings, and no change was made.
pub record HasImage (count : ℕ) (h : History) : Type 0 where
  pub nodes : List (Names × Node)
  pub are : AreNodesOf (image_files count) nodes
  pub stands : h ≡ begun (tree_of_last nodes)

-- The version at which the store is begun.
abbrev pub first_version : Version
first_version = record { major = 1; minor = 0; patch = 0 }

-- The core is over a store that is opened without boot.
pub record IsOver (c : Core) (old new : History) : Type 0 where
  pub store : Opened
  pub opens : Opens false (Ok store) old new
  pub state : core_state c ≡ record { place = store.place; held = store.held; job = Idle; faulted = false }
  pub image : c.image ≡ store.image

-- A store is begun and opened without boot, and the core is over what was opened.
pub record Starts (c : Core) (old new : History) : Type 0 where
  pub between : History
  pub begins : Begins first_version new_held (Ok tt) old between
  pub over : IsOver c between new
