-- What is held is saved in a fresh data directory.
use Rattle.std.specs.Prelude.{◌≡◌, Result, IfOk}
use Rattle.outside.specs.History.{History, tree_of, IsSettled}
use Rattle.commit_journal.specs.Files.{files_below}
use Rattle.settings_tree.specs.declared.held.Held.{Held}
use Rattle.fs_datastore.specs.Stands.{Stands}
use Rattle.version_links.specs.declared.version.Version.{Version}
use Rattle.version_links.specs.Names.{Target, directory}
use Rattle.version_links.specs.Fresh.{IsFirstFree}
use Rattle.migrate_chain.specs.Store.{TouchesOthers}

-- The fresh data directory of the version represents what is held, and all is on the disk.
pub record IsCopied (version : Version) (held : Held) (target : Target) (old new : History) : Type 0 where
  pub version_is : target.version ≡ version
  pub first : IsFirstFree (tree_of old) target
  pub stands : Stands (files_below (directory target) (tree_of new)) held 2
  pub settled : IsSettled new

-- A copy of what is held is saved as a version.
pub record Copies {E : Type 0} (version : Version) (held : Held) (result : Result Target E) (old new : History) : Type 0 where
  -- Only paths below other data directories change than that to which the links lead.
  pub others : TouchesOthers old new
  -- After Ok the copy is there.
  pub copied : IfOk result (λ target. IsCopied version held target old new)
