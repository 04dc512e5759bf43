-- What a run leaves alone.
use Rattle.std.specs.Prelude.{◌≡◌, ◌⊎◌, true, List}
use Rattle.outside.specs.Names.{Names}
use Rattle.outside.specs.Tree.{Tree, node_at}
use Rattle.outside.specs.History.{History, tree_of, MayLeave}
use Rattle.outside.specs.Since.{EachSince, Touches}
use Rattle.settings_machine.specs.World.{Image}
use Rattle.settings_machine.specs.Events.{Event}
use Rattle.machine_disk.specs.Store.{is_store}
use Rattle.machine_disk.specs.Touched.{IsFilePath, MayChange}
use Rattle.version_links.specs.Chain.{Resolves, found}
use Rattle.version_links.specs.declared.version.Version.{Version}
use Rattle.migrate_chain.specs.Store.{IsInOther}
use Rattle.command_words.specs.Orders.{Order, init, check, migrate, prune, load, restore}

-- No other path is touched than these: each keeps its node, and a crash since the start leaves there what it might have left at the start.
pub record ChangesOnly (P : Names → Type 0) (old new : History) : Type 0 where
  pub touches : Touches P old new
  pub tree : (path : Names) → (P path → ⊥) → node_at (tree_of new) path ≡ node_at (tree_of old) path
  pub crash_states : (path : Names) → (P path → ⊥) → EachSince (λ crashed. MayLeave old path (node_at crashed path)) old new

-- Which paths a run of the order and the events may change, where a store is there: `init`, `restore`, `check` and `load` none; `prune` those below other
-- data directories; `migrate` those in the folder `store`; and the others those below the data directory and, where a turn of a job is
-- among the events, those of files of the manifest.
abbrev pub MayTouch : Order → Image → List Event → Names → Names → Type 0
MayTouch (init version) I events directory path = ⊥
MayTouch (restore from) I events directory path = ⊥
MayTouch (check store) I events directory path = ⊥
MayTouch (load count) I events directory path = ⊥
MayTouch prune I events directory path = IsInOther directory path
MayTouch (migrate to) I events directory path = is_store path ≡ true
MayTouch _ I events directory path = MayChange I events directory path

-- It changes no other, with the data directory to which the links lead.
abbrev pub StaysElsewhere : Order → Image → List Event → History → History → Type 0
StaysElsewhere order I events old new = (version : Version) (directory : Names) → Resolves (tree_of old) (found version directory)
    → ChangesOnly (MayTouch order I events directory) old new

-- What any run may change is in the folder `store`, or is a file of the manifest: so it is no file of the image.
abbrev pub TouchesWithin : Type 0
TouchesWithin = (order : Order) (I : Image) (events : List Event) (tree : Tree) (version : Version) (directory : Names)
    → Resolves tree (found version directory) → (path : Names) → MayTouch order I events directory path → (is_store path ≡ true) ⊎ IsFilePath I path

-- What events may change is in no other data directory.
abbrev pub OtherStoresStay : Type 0
OtherStoresStay = (I : Image) (events : List Event) (tree : Tree) (version : Version) (directory : Names) → Resolves tree (found version directory)
    → (path : Names) → IsInOther directory path → MayChange I events directory path → ⊥
