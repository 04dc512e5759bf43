-- What a migration does to the disk, as a whole.
use Rattle.std.specs.Prelude.{◌≡◌, ◌≢◌, ◌⊎◌, ◌∷◌, [], codes, ℕ, List, Option, Result, IfOk, OnOk, IfErr, IsErrOf}
use Rattle.outside.specs.Names.{Names}
use Rattle.outside.specs.Tree.{Tree}
use Rattle.outside.specs.History.{History, tree_of, IsCrashState, IsSettled}
use Rattle.outside.specs.Since.{EachSince, Touches}
use Rattle.commit_journal.specs.Files.{IsBelow}
use Rattle.commit_journal.specs.Recovery.{FromSyncOn}
use Rattle.settings_tree.specs.declared.held.Held.{Held}
use Rattle.version_links.specs.declared.version.Version.{Version}
use Rattle.version_links.specs.declared.chain.Place.{Place}
use Rattle.version_links.specs.Chain.{nowhere, bad, Resolves}
use Rattle.release_file.specs.declared.transition.Transition.{Transition}
use Rattle.release_file.specs.declared.work.Named.{Named}
use Rattle.migrate_chain.specs.declared.moving.Moved.{Moved}
use Rattle.migrate_chain.specs.declared.move_error.MoveError.{MoveError}
use Rattle.migrate_chain.specs.declared.move_error.MoveError.TheVariants.{NoStore, BadLink, BadJournal, Damaged, Missing, Failed}
use Rattle.release_file.specs.Chain.{is_back, IsWay, HasNoPlan}
use Rattle.migrate_chain.specs.Tasks.{Mapped, Refused, tasks_of}
use Rattle.migrate_chain.specs.Store.{at_place, HasStore}
use Rattle.migrate_chain.specs.Starting.{HasBadJournal, IsDamagedAt}
use Rattle.migrate_chain.specs.Moving.{HasMoved, Ends, IsAnswer, IsBehind, IsRefusal}

-- The store has moved from the place along the steps that lead to the version.
pub record HasMigrated (place : Place) (held : Held) (to : Version) (transitions : List Transition) (migrations : List Named)
    (before after : Option (List Mapped)) (tree : Tree) : Type 0 where
  pub way : List Transition
  pub is_way : IsWay transitions place.version to way
  pub moved : HasMoved (tasks_of migrations (is_back place.version to) way) to held before after tree

-- The store is where it was and as it was, in format 2, and its version is the one to which it was to move.
pub record IsThere (place : Place) (held : Held) (format : ℕ) (to : Version) (tree : Tree) : Type 0 where
  pub version_is : place.version ≡ to
  pub format_is : format ≡ 2
  pub store : HasStore place held format tree

-- What was done for a move that met this error: nothing, or a part of the way's tasks, the first of them on what was held. A refusal is that of
-- the next task, and the one that was noted.
pub record HasEnded (place : Place) (held : Held) (to : Version) (transitions : List Transition) (migrations : List Named)
    (before after : Option (List Mapped)) (refused_before refused_after : Option (List Refused)) (error : MoveError) : Type 0 where
  pub ended : ((after ≡ before) × (refused_after ≡ refused_before) × (IsRefusal error → ⊥))
      ⊎ ((way : List Transition) × IsWay transitions place.version to way
      × Ends (tasks_of migrations (is_back place.version to) way) held before after refused_before refused_after error)

-- The links lead to a data directory that represents something.
pub record HasSome (tree : Tree) : Type 0 where
  pub place : Place
  pub held : Held
  pub format : ℕ
  pub store : HasStore place held format tree

-- At every moment a crash leaves what it might have left at the start, or a tree that has P.
abbrev pub SinceStart : (Tree → Type 0) → History → History → Type 0
SinceStart P old new = EachSince (λ crashed. IsCrashState old crashed ⊎ P crashed) old new

-- A store is moved to a version. What is said of a store is said of one that was there at the start.
pub record Migrates (to : Version) (transitions : List Transition) (migrations : List Named) (before after : Option (List Mapped))
    (refused_before refused_after : Option (List Refused)) (result : Result Moved MoveError) (old new : History) : Type 0 where
  -- At every moment the store is as it was, or it has moved: all tasks of the way were carried out, once and in order.
  pub any_moment : (place : Place) (held : Held) (format : ℕ) → HasStore place held format (tree_of old)
      → SinceStart (λ crashed. HasStore place held format crashed ⊎ HasMigrated place held to transitions migrations before after crashed) old new
  -- After Ok it has moved, or it was there in format 2, and this is on the disk.
  pub done : IfOk result (λ moved. (place : Place) (held : Held) (format : ℕ) → HasStore place held format (tree_of old)
      → IsSettled new × (IsThere place held format to (tree_of new) ⊎ HasMigrated place held to transitions migrations before after (tree_of new)))
  -- The answer is the version that it had, and the place to which the links lead now.
  pub answer : IfOk result (λ moved. (place : Place) (held : Held) (format : ℕ) → HasStore place held format (tree_of old)
      → IsAnswer moved place.version to (tree_of new))
  -- Ok comes only where a store was, and so do no plan and the refusals of migrations.
  pub found : OnOk result (HasSome (tree_of old))
  pub found_first : IfErr result (λ e. IsBehind e → HasSome (tree_of old))
  -- Where it is at the version in format 2, only its journal is carried out.
  pub stays : (place : Place) (held : Held) → HasStore place held 2 (tree_of old) → place.version ≡ to → FromSyncOn (Touches (IsBelow place.directory)) old new
  -- And so at every moment the store is as it was.
  pub still : (place : Place) (held : Held) → HasStore place held 2 (tree_of old) → place.version ≡ to → SinceStart (HasStore place held 2) old new
  -- After Ok nothing was refused.
  pub not_refused : OnOk result (refused_after ≡ refused_before)
  -- After every error but a failure of the disk it is as it was, at every moment.
  pub kept : IfErr result (λ e. e ≢ Failed → (place : Place) (held : Held) (format : ℕ) → HasStore place held format (tree_of old)
      → SinceStart (HasStore place held format) old new)
  -- Whatever error is met, the tasks of the way were carried out from the first on, up to the one that was refused.
  pub ended : IfErr result (λ e. (place : Place) (held : Held) (format : ℕ) → HasStore place held format (tree_of old)
      → HasEnded place held to transitions migrations before after refused_before refused_after e)
  -- Nothing is changed outside the folder `store`, and nothing at all where no store or a bad link is.
  pub outside : (place : Place) → Resolves (tree_of old) (at_place place) → Touches (IsBelow (codes "store" ∷ [])) old new
  pub no_store : IsErrOf result NoStore → Resolves (tree_of old) nowhere × (new ≡ old)
  pub bad_link : (path : Names) → IsErrOf result (BadLink path) → Resolves (tree_of old) (bad path) × (new ≡ old)
  -- The other refusals of what is there, and of the plan.
  pub bad_journal : (path : Names) → IsErrOf result (BadJournal path) → HasBadJournal path old
  pub damaged : (path : Names) → IsErrOf result (Damaged path) → IsDamagedAt path old new
  pub missing : (at target : Version) → IsErrOf result (Missing at target)
      → (place : Place) × Resolves (tree_of old) (at_place place) × HasNoPlan transitions place.version to at target
