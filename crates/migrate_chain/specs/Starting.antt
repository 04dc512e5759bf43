-- A store is made ready for a move.
use Rattle.std.specs.Prelude.{◌≡◌, ◌++◌, ℕ, Result, IfOk, IsErrOf}
use Rattle.outside.specs.Names.{Names}
use Rattle.outside.specs.History.{History, tree_of, IsSettled}
use Rattle.outside.specs.Since.{EachSince, Touches}
use Rattle.commit_journal.specs.Files.{files_below, IsBelow}
use Rattle.commit_journal.specs.Stands.{journal}
use Rattle.commit_journal.specs.Recovery.{FromSyncOn, IsBad}
use Rattle.settings_tree.specs.declared.held.Held.{Held}
use Rattle.fs_datastore.specs.Stands.{Stands}
use Rattle.fs_datastore.specs.Damage.{IsFaultBelow}
use Rattle.version_links.specs.declared.version.Version.{Version}
use Rattle.version_links.specs.declared.chain.Place.{Place}
use Rattle.version_links.specs.Chain.{nowhere, bad, Resolves}
use Rattle.migrate_chain.specs.Store.{at_place, HasStore}
use Rattle.migrate_chain.specs.declared.start.Start.{Start}
use Rattle.migrate_chain.specs.declared.move_error.MoveError.{MoveError}
use Rattle.migrate_chain.specs.declared.move_error.MoveError.TheVariants.{NoStore, BadLink, BadJournal, Damaged, Missing}

-- The links led to the place, and what was read is what its directory represented. They lead there, and the files represent it alone and are on the disk.
pub record IsReady (start : Start) (old new : History) : Type 0 where
  pub was : HasStore start.place start.held start.format (tree_of old)
  pub led : Resolves (tree_of new) (at_place start.place)
  pub stands : Stands (files_below start.place.directory (tree_of new)) start.held start.format
  pub settled : IsSettled new

-- The store is the one that was there.
pub record IsFound (start : Start) (place : Place) (held : Held) (format : ℕ) : Type 0 where
  pub place_is : start.place ≡ place
  pub held_is : start.held ≡ held
  pub format_is : start.format ≡ format

-- The fault of the directory to which the links lead is at this path, where its journal was carried out.
pub record IsDamagedAt (path : Names) (old new : History) : Type 0 where
  pub place : Place
  pub led : Resolves (tree_of old) (at_place place)
  pub fault : IsFaultBelow place.directory (tree_of new) path

-- The journal of the directory to which the links lead is none.
pub record HasBadJournal (path : Names) (old : History) : Type 0 where
  pub place : Place
  pub led : Resolves (tree_of old) (at_place place)
  pub path_is : path ≡ place.directory ++ journal
  pub bad_there : IsBad place.directory (tree_of old)

-- The store is found and its journal carried out.
pub record Starts (result : Result Start MoveError) (old new : History) : Type 0 where
  -- From the first sync on each crash state has the store that was there.
  pub keeps : (place : Place) (held : Held) (format : ℕ) → HasStore place held format (tree_of old)
      → FromSyncOn (EachSince (HasStore place held format)) old new
  -- Before that sync nothing is written, and after it only below the directory to which the links lead.
  pub sync_first : (place : Place) → Resolves (tree_of old) (at_place place) → FromSyncOn (Touches (IsBelow place.directory)) old new
  -- After Ok the store is ready.
  pub ready : IfOk result (λ start. IsReady start old new)
  -- It is the one that was there.
  pub found : IfOk result (λ start. (place : Place) (held : Held) (format : ℕ) → HasStore place held format (tree_of old) → IsFound start place held format)
  -- Where `current` is no link nothing is changed, nor where a link is bad.
  pub no_store : IsErrOf result NoStore → Resolves (tree_of old) nowhere × (new ≡ old)
  pub bad_link : (path : Names) → IsErrOf result (BadLink path) → Resolves (tree_of old) (bad path) × (new ≡ old)
  pub bad_journal : (path : Names) → IsErrOf result (BadJournal path) → HasBadJournal path old
  pub damaged : (path : Names) → IsErrOf result (Damaged path) → IsDamagedAt path old new
  -- No plan is made yet.
  pub no_plan : (at target : Version) → IsErrOf result (Missing at target) → ⊥
