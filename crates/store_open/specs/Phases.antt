-- For private clauses: an opening, part by part.
use Rattle.std.specs.Prelude.{◌≡◌, ◌⊎◌, ℕ, List, Bool, Result, Ok, Err, OnOk, OnErr, ⊤}
use Rattle.outside.specs.Names.{Names}
use Rattle.outside.specs.Tree.{Tree}
use Rattle.outside.specs.History.{History, tree_of, IsSettled}
use Rattle.outside.specs.Since.{EachSince, Touches}
use Rattle.outside.specs.declared.disk_error.DiskErr.{DiskErr}
use Rattle.outside.specs.declared.disk_error.DiskErr.TheVariants as device
use Rattle.commit_journal.specs.Files.{files_below, IsBelow}
use Rattle.commit_journal.specs.Recovery.{Recovers}
use Rattle.commit_journal.specs.Stands.{IsReady}
use Rattle.settings_tree.specs.declared.held.Held.{Held}
use Rattle.fs_datastore.specs.Damage.{IsFaultBelow}
use Rattle.fs_datastore.specs.Stands.{Stands}
use Rattle.store_image.specs.Paths.{sources_in}
use Rattle.store_image.specs.Refused.{IsRefused}
use Rattle.store_image.specs.declared.image.Image.{Image}
use Rattle.machine_disk.specs.Store.{HoldsIn}
use Rattle.version_links.specs.Chain.{found, Resolves}
use Rattle.version_links.specs.declared.chain.Place.{Place}
use Rattle.store_open.specs.Opening.{Means, MeansIllTyped, Opens}
use Rattle.store_open.specs.Reading.{Refuses}
use Rattle.typed_settings.specs.declared.row.Row.{Row}
use Rattle.store_open.specs.Typed.{IsIllTyped}
use Rattle.store_open.specs.declared.opened.Opened.{Opened}
use Rattle.store_open.specs.declared.open_error.OpenError.{OpenError}
use Rattle.store_open.specs.declared.open_error.OpenError.TheVariants as refused

-- A refusal of the data directory or of the image tells of what is there.
abbrev pub AtFault : Names → OpenError → History → Type 0
AtFault directory refused.NoStore h = ⊥
AtFault directory (refused.BadLink path) h = ⊥
AtFault directory (refused.BadJournal path) h = ⊥
AtFault directory (refused.Damaged path) h = IsFaultBelow directory (tree_of h) path
AtFault directory (refused.OldFormat path) h = (path ≡ directory) × Means directory 1 (tree_of h)
AtFault directory (refused.BadImage file kind at) h = Means directory 2 (tree_of h) × IsRefused (sources_in (tree_of h)) file (kind, at)
AtFault directory (refused.IllTyped key) h = MeansIllTyped directory key (tree_of h)
AtFault directory refused.Failed h = ⊤
AtFault directory refused.Memory h = ⊤

-- The directory is ready, and its files represent this in format 2.
pub record IsReadyWith (directory : Names) (held : Held) (history : History) : Type 0 where
  pub ready : IsReady directory history
  pub means : Stands (files_below directory (tree_of history)) held 2
  pub settled : IsSettled history

-- The tree's directory holds this in format 2, or that.
abbrev pub HoldsEither : Names → Held → Held → Tree → Type 0
HoldsEither directory held after tree = HoldsIn directory held 2 tree ⊎ HoldsIn directory after 2 tree

-- It holds what it held, and so does all that a crash since the start might have left.
pub record IsKept (directory : Names) (held : Held) (old new : History) : Type 0 where
  pub tree : HoldsIn directory held 2 (tree_of new)
  pub crash_states : EachSince (HoldsIn directory held 2) old new

-- What is held in the directory becomes this, at once or not at all.
pub record Lays (directory : Names) (held after : Held) (result : Result (Unit {0}) DiskErr) (old new : History) : Type 0 where
  pub any_moment : IsReadyWith directory held old → EachSince (HoldsEither directory held after) old new
  pub done : OnOk result (IsReadyWith directory held old → IsReadyWith directory after new)
  pub failed : OnErr result (IsReadyWith directory held old → IsKept directory held old new
      ⊎ (HoldsIn directory after 2 (tree_of new) × (result ≡ Err device.Failed)))
  pub touches : Touches (IsBelow directory) old new

-- The journal of the directory was carried out, if there is one.
pub record HasRecovered (directory : Names) (old new : History) : Type 0 where
  pub journal : Bool
  pub recovers : Recovers directory (Ok journal) old new

-- Where the links led to the place, the store was not read for this reason.
abbrev pub RefusesAt : Place → OpenError → History → History → Type 0
RefusesAt place e old new = Resolves (tree_of old) (found place.version place.directory) → Refuses e old new

-- Where the links led to the place and its journal was carried out, an opening ended with this result.
abbrev pub Ends : Bool → Place → Result Opened OpenError → History → History → Type 0
Ends boot place result mid new = (old : History) → Resolves (tree_of old) (found place.version place.directory) → HasRecovered place.directory old mid
    → Opens boot result old new

-- And it ended with an open store in which this is held, with this image.
abbrev pub EndsOpen : Bool → Place → Held → Image → History → History → Type 0
EndsOpen boot place held image mid new = (stored : Opened) → stored.place ≡ place → stored.held ≡ held → stored.image ≡ image
    → Ends boot place (Ok stored) mid new

-- A refusal for another cause than the disk or memory comes without a failure of the disk.
abbrev pub IsFaultless : OpenError → ℕ → ℕ → Type 0
IsFaultless refused.Failed before now = ⊤
IsFaultless refused.Memory before now = ⊤
IsFaultless _ before now = now ≡ before

-- The refusal tells of the first ill typed key.
abbrev pub TellsIllTyped : List Row → Held → OpenError → Type 0
TellsIllTyped types held (refused.IllTyped key) = IsIllTyped types held key
TellsIllTyped types held refused.Memory = ⊤
TellsIllTyped types held _ = ⊥
