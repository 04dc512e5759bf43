-- What an opening does to a disk.
use Rattle.std.specs.Prelude.{◌≡◌, ◌⊎◌, ℕ, List, length, ◌++◌, Bool, Result, Ok, Err, OnOk, OnErr, IfOk, IfErr, ⊤}
use Rattle.outside.specs.Names.{Names}
use Rattle.outside.specs.Tree.{Tree}
use Rattle.outside.specs.History.{History, next, synced, tree_of}
use Rattle.outside.specs.Since.{EachSince}
use Rattle.commit_journal.specs.Files.{files_below}
use Rattle.commit_journal.specs.Recovery.{Recovers, FromSyncOn, IsBad}
use Rattle.commit_journal.specs.Stands.{journal, ChangesOnlyBelow}
use Rattle.settings_tree.specs.declared.held.Held.{Held}
use Rattle.fs_datastore.specs.Damage.{IsFaultBelow}
use Rattle.fs_datastore.specs.Stands.{Stands}
use Rattle.store_image.specs.Image.{IsImageOf}
use Rattle.store_image.specs.Paths.{sources_in}
use Rattle.store_image.specs.Refused.{IsRefused}
use Rattle.store_image.specs.declared.image.Image.{Image}
use Rattle.typed_settings.specs.Order.{IsTable}
use Rattle.version_links.specs.Chain.{nowhere, found, bad, Resolves}
use Rattle.version_links.specs.declared.version.Version.{Version}
use Rattle.store_open.specs.World.{World, HasWorld, IsAtRest}
use Rattle.store_open.specs.Step.{opened, opened_world}
use Rattle.settings_machine.specs.Typed.{IsTypedHeld}
use Rattle.store_open.specs.Typed.{IsIllTyped}
use Rattle.store_open.specs.declared.opened.Opened.{Opened}
use Rattle.store_open.specs.declared.open_error.OpenError.{OpenError}
use Rattle.store_open.specs.declared.open_error.OpenError.TheVariants as refused

-- The files below `image` of the tree make this image, and no two rows of its types meet.
pub record IsImageIn (tree : Tree) (image : Image) : Type 0 where
  pub made : IsImageOf (sources_in tree) image.model image.manifest image.templates image.text
  pub table : IsTable image.model.types

-- The world is typed, and the tree holds the world after the opening step, by the image of the tree at the start.
pub record HasOpened (boot : Bool) (start : Tree) (before : World) (tree : Tree) : Type 0 where
  pub image : Image
  pub read : IsImageIn start image
  pub typed : IsTypedHeld image.model.types before.held
  pub world : HasWorld (opened_world boot image before) tree

-- The tree holds the world before the opening step, or the world after it.
abbrev pub HasEither : Bool → Tree → World → Tree → Type 0
HasEither boot start before tree = HasWorld before tree ⊎ HasOpened boot start before tree

-- The step is not taken: the tree holds the world before it, and so does all that a crash might have left from the first sync on.
pub record IsNotTaken (before : World) (old new : History) : Type 0 where
  pub tree : HasWorld before (tree_of new)
  pub crash_states : FromSyncOn (EachSince (HasWorld before)) old new

-- The store is open: the disk is at rest in the world of what was opened, and the image is that of the disk.
pub record IsOpen (result : Opened) (new : History) : Type 0 where
  pub rest : IsAtRest (record { version = result.place.version; directory = result.place.directory; format = 2; held = result.held }) new
  pub image : IsImageIn (tree_of new) result.image

-- The data directory is a folder of the store, and what is held is typed.
pub record IsSoundOpened (store : Opened) : Type 0 where
  pub two_names : length store.place.directory ≡ 2
  pub typed : IsTypedHeld store.image.model.types store.held

-- The world before was typed, of format 2 and at this place, and what is held now is what the opening step makes of it.
pub record IsStep (boot : Bool) (before : World) (result : Opened) : Type 0 where
  pub typed : IsTypedHeld result.image.model.types before.held
  pub version : result.place.version ≡ before.version
  pub directory : result.place.directory ≡ before.directory
  pub format : before.format ≡ 2
  pub held : result.held ≡ opened boot result.image before.held

-- The links lead to this data directory.
pub record LeadTo (directory : Names) (tree : Tree) : Type 0 where
  pub version : Version
  pub links : Resolves tree (found version directory)

-- The data directory represents something in this format.
pub record Means (directory : Names) (format : ℕ) (tree : Tree) : Type 0 where
  pub held : Held
  pub means : Stands (files_below directory tree) held format

-- The data directory and the image are whole, and this is the first key at which what is held is ill typed.
pub record MeansIllTyped (directory : Names) (key : List (List ℕ)) (tree : Tree) : Type 0 where
  pub held : Held
  pub image : Image
  pub means : Stands (files_below directory tree) held 2
  pub read : IsImageIn tree image
  pub ill : IsIllTyped image.model.types held key

-- The links lead to a data directory, and all that happened is that its journal, if there is one, was carried out.
pub record IsOnlyRecovered (directory : Names) (old new : History) : Type 0 where
  pub leads : LeadTo directory (tree_of old)
  pub journal : Bool
  pub recovers : Recovers directory (Ok journal) old new

-- What a refusal tells: of the links, or of the data directory and the image once the journal was carried out.
abbrev pub Tells : OpenError → History → History → Type 0
Tells refused.NoStore old new = Resolves (tree_of old) nowhere × (new ≡ old)
Tells (refused.BadLink path) old new = Resolves (tree_of old) (bad path) × (new ≡ old)
Tells (refused.BadJournal path) old new = (directory : Names) × LeadTo directory (tree_of old) × (path ≡ directory ++ journal) × IsBad directory (tree_of old) ×
    (new ≡ next synced old)
Tells (refused.Damaged path) old new = (directory : Names) × IsOnlyRecovered directory old new × IsFaultBelow directory (tree_of new) path
Tells (refused.OldFormat directory) old new = IsOnlyRecovered directory old new × Means directory 1 (tree_of new)
Tells (refused.BadImage file kind at) old new = (directory : Names) × IsOnlyRecovered directory old new × Means directory 2 (tree_of new) × IsRefused
    (sources_in (tree_of new)) file (kind, at)
Tells (refused.IllTyped key) old new = (directory : Names) × IsOnlyRecovered directory old new × MeansIllTyped directory key (tree_of new)
Tells refused.Failed old new = ⊤
Tells refused.Memory old new = ⊤

-- The store of a disk is opened.
pub record Opens (boot : Bool) (result : Result Opened OpenError) (old new : History) : Type 0 where
  -- From the first sync on, a crash leaves the world before the opening step or the world after it; before that sync nothing is written.
  pub any_moment : (before : World) → HasWorld before (tree_of old) → FromSyncOn (EachSince (HasEither boot (tree_of old) before)) old new
  -- After Ok a store was there,
  pub there : OnOk result ((before : World) × HasWorld before (tree_of old))
  -- it is open,
  pub done : IfOk result (λ store. IsOpen store new)
  -- and the step was taken.
  pub taken : IfOk result (λ store. (before : World) → HasWorld before (tree_of old) → IsStep boot before store)
  -- After a refusal the step is taken, or it is not; and it is taken only where the disk failed.
  pub refused : OnErr result ((before : World) → HasWorld before (tree_of old)
      → IsNotTaken before old new ⊎ (HasOpened boot (tree_of old) before (tree_of new) × (result ≡ Err refused.Failed)))
  -- From the first sync on nothing changes but below the data directory, and nothing at all where the links lead to none.
  pub others : (version : Version) (directory : Names) → Resolves (tree_of old) (found version directory) → FromSyncOn (ChangesOnlyBelow directory) old new
  -- Each refusal tells of what is there.
  pub told : IfErr result (λ e. Tells e old new)
