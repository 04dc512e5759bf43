-- What `check --store` says of an image and of a store.
use Rattle.std.specs.Prelude.{◌≡◌, ◌⊎◌, ◌++◌, ℕ, Bool, true, false, List, Option, Ok, Err, ⊤}
use Rattle.outside.specs.History.{History, tree_of}
use Rattle.outside.specs.Told.{WhereTold}
use Rattle.outside.specs.Tree.{Tree}
use Rattle.settings_tree.specs.declared.held.Held.{Held}
use Rattle.store_image.specs.Paths.{Sources, sources_in}
use Rattle.store_image.specs.Refused.{IsRefused}
use Rattle.store_image.specs.declared.image.Image.{Image}
use Rattle.version_links.specs.Chain.{found, Resolves}
use Rattle.machine_disk.specs.Store.{HoldsIn}
use Rattle.store_open.specs.Opening.{IsImageIn}
use Rattle.store_open.specs.Peeking.{TellsOf}
use Rattle.store_open.specs.declared.open_error.OpenError.{OpenError}
use Rattle.store_open.specs.declared.stored.Stored.{Stored}
use Rattle.store_report.specs.Report.{IsStoreReport}
use Rattle.store_report.specs.declared.reporting.StoreReport.{StoreReport}
use Rattle.command_outcome.specs.Ends.{Outcome}
use Rattle.command_outcome.specs.declared.refusal.Refusal.TheVariants as refused
use Rattle.core_commands.specs.Handing.{not_opened}
use Rattle.settings_cmd.specs.Checks.{IsReportOn}

-- These lines, in the place of a refusal where a value is ill typed, else where a file would not be rendered, else where one isn't covered.
abbrev pub verdict : Bool → Bool → Bool → List ℕ → Outcome
verdict true refuses covered lines = Err (refused.HoldsIllTyped lines)
verdict false true covered lines = Err (refused.WouldNotRender lines)
verdict false false false lines = Err (refused.NotCovered lines)
verdict false false true lines = Ok lines

-- The report on the image, and behind it the one on what is held.
pub record IsHeldReport (image : Image) (held : Held) (outcome : Outcome) : Type 0 where
  pub lines : List ℕ
  pub covered : Bool
  pub on_image : IsReportOn image lines covered
  pub store : StoreReport
  pub on_store : IsStoreReport image held store
  pub outcome_is : outcome ≡ verdict store.ill_typed store.refuses covered (lines ++ store.lines)

-- It is, or it ran out of memory.
abbrev pub ReportsHeld : Image → Held → Outcome → Type 0
ReportsHeld image held outcome = IsHeldReport image held outcome ⊎ (outcome ≡ Err refused.Memory)

-- Why nothing is reported on: the first fault of the image; or the disk or memory failed.
abbrev pub TellsOfFault : Sources → Outcome → Type 0
TellsOfFault files (Err (refused.BadImage file kind at)) = IsRefused files file (kind, at)
TellsOfFault files (Err refused.Disk) = ⊤
TellsOfFault files (Err refused.Memory) = ⊤
TellsOfFault files _ = ⊥

-- The files of the tree make an image, and the report is on it and on what is held.
pub record IsReportWith (tree : Tree) (held : Held) (outcome : Outcome) : Type 0 where
  pub image : Image
  pub read : IsImageIn tree image
  pub report : IsHeldReport image held outcome

-- What is told of the image of the tree and of what is held.
abbrev pub ChecksHeld : Tree → Held → Outcome → Type 0
ChecksHeld tree held outcome = IsReportWith tree held outcome ⊎ TellsOfFault (sources_in tree) outcome

-- An opening would find this store, and it is reported on with the image.
pub record IsStoreReported (tree : Tree) (outcome : Outcome) : Type 0 where
  pub stored : Stored
  pub links : Resolves tree (found stored.place.version stored.place.directory)
  pub holds : HoldsIn stored.place.directory stored.held 2 tree
  pub checks : ChecksHeld tree stored.held outcome

-- It would find none, or not all of it, and that is reported as it is.
pub record IsStoreRefused (tree : Tree) (outcome : Outcome) : Type 0 where
  pub error : OpenError
  pub tells : TellsOf error tree
  pub outcome_is : outcome ≡ Err (not_opened error)

-- What is told of a tree.
abbrev pub ChecksStore : Tree → Outcome → Type 0
ChecksStore tree outcome = IsStoreReported tree outcome ⊎ IsStoreRefused tree outcome

-- The store and the image are reported on, and the disk is as before.
abbrev pub IsStoreChecked : Outcome → Option History → Option History → Type 0
IsStoreChecked outcome d d' = WhereTold d (λ h. ChecksStore (tree_of h) outcome) × (d' ≡ d)
