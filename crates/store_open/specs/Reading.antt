-- What it does to a disk to read what its store holds.
use Rattle.std.specs.Prelude.{Bool, Result, Ok, IfOk, IfErr}
use Rattle.outside.specs.Names.{Names}
use Rattle.outside.specs.History.{History, tree_of}
use Rattle.commit_journal.specs.Files.{files_below}
use Rattle.commit_journal.specs.Recovery.{Recovers, FromSyncOn}
use Rattle.commit_journal.specs.Stands.{ChangesOnlyBelow}
use Rattle.fs_datastore.specs.Stands.{Stands}
use Rattle.version_links.specs.Chain.{found, Resolves}
use Rattle.version_links.specs.declared.version.Version.{Version}
use Rattle.store_open.specs.World.{World, HasWorld}
use Rattle.store_open.specs.Opening.{IsNotTaken, Tells}
use Rattle.store_open.specs.declared.stored.Stored.{Stored}
use Rattle.store_open.specs.declared.open_error.OpenError.{OpenError}
use Rattle.store_open.specs.declared.open_error.OpenError.TheVariants as refused

-- It was refused: the world stays as it was, nothing changes but below the data directory, and the refusal tells of what is there.
pub record Refuses (e : OpenError) (old new : History) : Type 0 where
  pub stays : (before : World) → HasWorld before (tree_of old) → IsNotTaken before old new
  pub others : (version : Version) (directory : Names) → Resolves (tree_of old) (found version directory) → FromSyncOn (ChangesOnlyBelow directory) old new
  pub told : Tells e old new

-- The links lead to the place; all that happened is that its journal, if there is one, was carried out; and its directory represents this in format 2.
pub record HasRead (stored : Stored) (old new : History) : Type 0 where
  pub links : Resolves (tree_of old) (found stored.place.version stored.place.directory)
  pub journal : Bool
  pub recovers : Recovers stored.place.directory (Ok journal) old new
  pub means : Stands (files_below stored.place.directory (tree_of new)) stored.held 2

-- The refusal is not one of an image.
abbrev pub IsOfStore : OpenError → Type 0
IsOfStore (refused.BadImage file kind at) = ⊥
IsOfStore (refused.IllTyped key) = ⊥
IsOfStore _ = Unit {0}

-- The store of a disk is read, or that is refused, and no image is looked at.
pub record Reads (result : Result Stored OpenError) (old new : History) : Type 0 where
  pub done : IfOk result (λ stored. HasRead stored old new)
  pub refused : IfErr result (λ e. Refuses e old new)
  pub of_store : IfErr result IsOfStore
