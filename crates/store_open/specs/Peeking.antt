-- What a store that is read without a write is found to hold.
use Rattle.std.specs.Prelude.{◌≡◌, ◌⊎◌, ◌++◌, IsSome, ⊤}
use Rattle.outside.specs.Names.{Names}
use Rattle.outside.specs.Tree.{Tree, link_in}
use Rattle.commit_journal.specs.Files.{Files, files_below}
use Rattle.commit_journal.specs.Recovery.{IsBad}
use Rattle.commit_journal.specs.Stands.{journal, TreeStandsFor}
use Rattle.settings_tree.specs.declared.held.Held.{Held}
use Rattle.fs_datastore.specs.Damage.{IsFault}
use Rattle.machine_disk.specs.Store.{HoldsIn}
use Rattle.version_links.specs.Chain.{nowhere, bad, Resolves}
use Rattle.store_open.specs.Opening.{LeadTo}
use Rattle.store_open.specs.declared.open_error.OpenError.{OpenError}
use Rattle.store_open.specs.declared.open_error.OpenError.TheVariants as refused

-- The files that an opening would find in the directory of this tree: those for which it stands; or those that are there, where a link is in the journal's
-- place.
abbrev pub WouldFind : Names → Files → Tree → Type 0
WouldFind directory files tree = TreeStandsFor directory files tree ⊎ (IsSome (link_in (files_below directory tree journal)) × (files ≡ files_below directory
    tree))

-- And this path would be the fault of these files.
pub record WouldFault (directory path : Names) (tree : Tree) : Type 0 where
  pub files : Files
  pub finds : WouldFind directory files tree
  pub below : Names
  pub path_is : path ≡ directory ++ below
  pub fault : IsFault files below

-- A refusal of the data directory tells of the files that are there.
abbrev pub TellsIn : Names → OpenError → Tree → Type 0
TellsIn directory refused.NoStore tree = ⊥
TellsIn directory (refused.BadLink path) tree = ⊥
TellsIn directory (refused.BadJournal path) tree = (path ≡ directory ++ journal) × IsBad directory tree
TellsIn directory (refused.Damaged path) tree = WouldFault directory path tree
TellsIn directory (refused.OldFormat path) tree = (path ≡ directory) × (held : Held) × HoldsIn directory held 1 tree
TellsIn directory (refused.BadImage file kind at) tree = ⊥
TellsIn directory (refused.IllTyped key) tree = ⊥
TellsIn directory refused.Failed tree = ⊤
TellsIn directory refused.Memory tree = ⊤

-- A refusal tells of the links, or of the data directory to which they lead; and none is one of an image.
abbrev pub TellsOf : OpenError → Tree → Type 0
TellsOf refused.NoStore tree = Resolves tree nowhere
TellsOf (refused.BadLink path) tree = Resolves tree (bad path)
TellsOf (refused.BadJournal path) tree = (directory : Names) × LeadTo directory tree × TellsIn directory (refused.BadJournal path) tree
TellsOf (refused.Damaged path) tree = (directory : Names) × LeadTo directory tree × WouldFault directory path tree
TellsOf (refused.OldFormat directory) tree = LeadTo directory tree × ((held : Held) × HoldsIn directory held 1 tree)
TellsOf (refused.BadImage file kind at) tree = ⊥
TellsOf (refused.IllTyped key) tree = ⊥
TellsOf refused.Failed tree = ⊤
TellsOf refused.Memory tree = ⊤
