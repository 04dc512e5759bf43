-- What the store of a tree holds.
use Rattle.std.specs.Prelude.{◌≢◌, ◌⊎◌, ℕ}
use Rattle.outside.specs.Names.{Names}
use Rattle.outside.specs.Tree.{Tree}
use Rattle.outside.specs.History.{History, tree_of}
use Rattle.outside.specs.Since.{Touches}
use Rattle.commit_journal.specs.Files.{Files, IsBelow}
use Rattle.commit_journal.specs.Stands.{TreeStandsFor}
use Rattle.settings_tree.specs.declared.held.Held.{Held}
use Rattle.settings_tree.specs.declared.entry.Owed.TheVariants.{All}
use Rattle.fs_datastore.specs.Stands.{Stands}
use Rattle.version_links.specs.Names.{Target, IsTarget, directory}
use Rattle.version_links.specs.Chain.{Outcome, found, Resolves}
use Rattle.version_links.specs.declared.chain.Place.{Place}

-- The data directory represents what is held, in this format: its files do, with those of a journal laid over them.
pub record StandsIn (dir : Names) (held : Held) (format : ℕ) (tree : Tree) : Type 0 where
  pub files : Files
  pub found : TreeStandsFor dir files tree
  pub stands : Stands files held format

-- The links lead to this data directory of a version.
abbrev pub at_place : Place → Outcome
at_place place = found place.version place.directory

-- The links lead to the data directory, and it represents what is held, in this format.
pub record HasStore (place : Place) (held : Held) (format : ℕ) (tree : Tree) : Type 0 where
  pub led : Resolves tree (at_place place)
  pub stands : StandsIn place.directory held format tree

-- The path is strictly below a data directory other than this one.
pub record IsInOther (dir : Names) (path : Names) : Type 0 where
  pub target : Target
  pub other : directory target ≢ dir
  pub below : IsBelow (directory target) path

-- The same, where the numbers of the other directory's name are of their range, as those of every name that is written.
pub record IsLeftOver (dir : Names) (path : Names) : Type 0 where
  pub target : Target
  pub fits : IsTarget target
  pub other : directory target ≢ dir
  pub below : IsBelow (directory target) path

-- The same with every key owed.
abbrev pub owing_all : Held → Held
owing_all held = record held { owed = All }

-- The place of a data directory.
abbrev pub place_of : Target → Place
place_of target = record { version = target.version; directory = directory target }

-- The store is at its old place as it was, or at the new one as it is to be, in format 2.
abbrev pub HasEither : Place → Held → ℕ → Target → Held → Tree → Type 0
HasEither place held format target made tree = HasStore place held format tree ⊎ HasStore (place_of target) made 2 tree

-- Only paths below other data directories change than the one to which the links lead.
pub record TouchesOthers (old new : History) : Type 0 where
  pub touches : (place : Place) → Resolves (tree_of old) (at_place place) → Touches (IsInOther place.directory) old new
