-- What a move does to the disk, part by part.
use Rattle.std.specs.Prelude.{◌≡◌, ◌≢◌, ◌⊎◌, ◌++◌, ◌∷◌, [], codes, Bool, true, false, List, Option, Result, Err, IfOk, IfErr}
use Rattle.outside.specs.Tree.{Tree}
use Rattle.outside.specs.History.{History, tree_of, IsSettled}
use Rattle.outside.specs.Since.{EachSince, Touches}
use Rattle.outside.specs.Told.{Moves}
use Rattle.outside.specs.declared.disk_error.DiskErr.{DiskErr}
use Rattle.outside.specs.declared.disk_error.Failed.{Failed as Failure}
use Rattle.commit_journal.specs.Files.{files_below, IsBelow}
use Rattle.settings_tree.specs.declared.held.Held.{Held}
use Rattle.fs_datastore.specs.Stands.{Stands}
use Rattle.version_links.specs.declared.version.Version.{Version}
use Rattle.version_links.specs.Names.{Target, directory}
use Rattle.version_links.specs.Chain.{found, Resolves}
use Rattle.version_links.specs.Flip.{Flips}
use Rattle.migrate_chain.specs.Store.{HasStore, at_place, place_of, owing_all}
use Rattle.migrate_chain.specs.Tasks.{Task, Mapped, Refused, Refuses, AreDone, refusals_of, with_more}
use Rattle.migrate_chain.specs.Errors.{of_disk, of_task, of_failure}
use Rattle.migrate_chain.specs.declared.start.Start.{Start}
use Rattle.migrate_chain.specs.declared.moving.Moved.{Moved}
use Rattle.migrate_chain.specs.declared.task_error.TaskError.{TaskError}
use Rattle.migrate_chain.specs.declared.move_error.MoveError.{MoveError}
use Rattle.migrate_chain.specs.declared.move_error.MoveError.TheVariants.{NoStore, BadLink, BadJournal, Damaged, Missing}
use Rattle.migrate_chain.specs.declared.move_error.MoveError.TheVariants.{Conflict, Status, BadAnswer, Spawn, Failed, Memory}

-- The tasks were carried out, one after another, and noted.
pub record IsCarried (tasks : List Task) (held : Held) (before after : Option (List Mapped)) (made : Held) : Type 0 where
  pub gained : List Mapped
  pub after_is : after ≡ with_more before gained
  pub done : AreDone tasks held gained made

-- The first of the tasks were carried out.
pub record IsPartly (tasks : List Task) (held : Held) (before after : Option (List Mapped)) : Type 0 where
  pub first : List Task
  pub left : List Task
  pub are : tasks ≡ first ++ left
  pub reached : Held
  pub carried : IsCarried first held before after reached

-- The tasks were carried out up to one that met this error, which is noted where it is a refusal.
pub record IsStopped (tasks : List Task) (held : Held) (before after : Option (List Mapped))
    (refused_before refused_after : Option (List Refused)) (error : TaskError) : Type 0 where
  pub first : List Task
  pub task : Task
  pub left : List Task
  pub are : tasks ≡ first ++ task ∷ left
  pub reached : Held
  pub carried : IsCarried first held before after reached
  pub noted : refused_after ≡ with_more refused_before (refusals_of task reached error)
  pub refused : Refuses task reached error

-- A task was refused, or the disk failed after some of them.
abbrev pub EndsEarly : List Task → Held → Option (List Mapped) → Option (List Mapped) → Option (List Refused) → Option (List Refused) → MoveError → Type 0
EndsEarly tasks held before after refused_before refused_after error =
    ((e : DiskErr) × (error ≡ of_disk e) × IsPartly tasks held before after × (refused_after ≡ refused_before))
    ⊎ ((e : TaskError) × (error ≡ of_task e) × IsStopped tasks held before after refused_before refused_after e)

-- A task was refused, or the disk failed after some of them, or all were carried out and the disk failed or memory ran out.
abbrev pub Ends : List Task → Held → Option (List Mapped) → Option (List Mapped) → Option (List Refused) → Option (List Refused) → MoveError → Type 0
Ends tasks held before after refused_before refused_after error =
    EndsEarly tasks held before after refused_before refused_after error
    ⊎ (((error ≡ Failed) ⊎ (error ≡ Memory)) × ((made : Held) × IsCarried tasks held before after made) × (refused_after ≡ refused_before))

-- The error is one that comes before the migrations.
abbrev pub is_early : MoveError → Bool
is_early NoStore = true
is_early (BadLink path) = true
is_early (BadJournal path) = true
is_early (Damaged path) = true
is_early (Missing at target) = true
is_early (Conflict key) = false
is_early (Status name number) = false
is_early (BadAnswer name) = false
is_early (Spawn name) = false
is_early Failed = false
is_early Memory = false

-- The error comes after the reading of the store: no plan, or a refusal of a migration, or a program that could not be asked.
abbrev pub IsBehind : MoveError → Type 0
IsBehind NoStore = ⊥
IsBehind (BadLink path) = ⊥
IsBehind (BadJournal path) = ⊥
IsBehind (Damaged path) = ⊥
IsBehind (Missing at target) = Unit {0}
IsBehind (Conflict key) = Unit {0}
IsBehind (Status name number) = Unit {0}
IsBehind (BadAnswer name) = Unit {0}
IsBehind (Spawn name) = Unit {0}
IsBehind Failed = ⊥
IsBehind Memory = ⊥

-- The error is a refusal of a migration, or a program could not be asked.
abbrev pub IsRefusal : MoveError → Type 0
IsRefusal NoStore = ⊥
IsRefusal (BadLink path) = ⊥
IsRefusal (BadJournal path) = ⊥
IsRefusal (Damaged path) = ⊥
IsRefusal (Missing at target) = ⊥
IsRefusal (Conflict key) = Unit {0}
IsRefusal (Status name number) = Unit {0}
IsRefusal (BadAnswer name) = Unit {0}
IsRefusal (Spawn name) = Unit {0}
IsRefusal Failed = ⊥
IsRefusal Memory = ⊥

-- A data directory of the version represents what is held, and is on the disk.
pub record IsSaved (version : Version) (held : Held) (target : Target) (old new : History) : Type 0 where
  pub version_is : target.version ≡ version
  pub stands : Stands (files_below (directory target) (tree_of new)) held 2
  pub settled : IsSettled new

-- The links were not pointed to the data directory whole: it ran out of memory and nothing was done, or the disk failed and a part of it was.
abbrev pub FallsShort : Target → Option History → Option History → MoveError → Type 0
FallsShort target before after error =
    ((error ≡ Memory) × (after ≡ before)) ⊎ ((failure : Failure) × (error ≡ of_failure failure) × Moves before after (Flips target (Err failure)))

-- The store was found, and is on the disk without a journal.
pub record IsAtHand (start : Start) (history : History) : Type 0 where
  pub led : Resolves (tree_of history) (at_place start.place)
  pub stands : Stands (files_below start.place.directory (tree_of history)) start.held start.format
  pub settled : IsSettled history

-- The links lead to a data directory of the version, which represents, in format 2, what all of the tasks made, with every key owed.
pub record HasMoved (tasks : List Task) (to : Version) (held : Held) (before after : Option (List Mapped)) (tree : Tree) : Type 0 where
  pub made : Held
  pub carried : IsCarried tasks held before after made
  pub target : Target
  pub version_is : target.version ≡ to
  pub store : HasStore (place_of target) (owing_all made) 2 tree

-- The store is as it was, or it has moved.
abbrev pub HasOldOrNew : Start → List Task → Version → Option (List Mapped) → Option (List Mapped) → Tree → Type 0
HasOldOrNew start tasks to before after tree = HasStore start.place start.held start.format tree ⊎ HasMoved tasks to start.held before after tree

-- The answer is of a move from one version to the other, to the data directory to which the links lead.
pub record IsAnswer (moved : Moved) (from to : Version) (tree : Tree) : Type 0 where
  pub from_is : moved.from ≡ from
  pub to_is : moved.to ≡ to
  pub led : Resolves tree (found to moved.directory)

-- The store is moved along the tasks.
pub record MovesAlong (start : Start) (tasks : List Task) (to : Version) (before after : Option (List Mapped)) (result : Result Moved MoveError)
    (old new : History) : Type 0 where
  -- At every moment it is as it was, or it has moved.
  pub any_moment : IsAtHand start old → EachSince (HasOldOrNew start tasks to before after) old new
  -- After Ok it has moved, and this is on the disk.
  pub done : IfOk result (λ moved. IsAtHand start old → HasMoved tasks to start.held before after (tree_of new) × IsSettled new)
  -- The answer is its version before, and the place to which the links lead now.
  pub answer : IfOk result (λ moved. IsAtHand start old → IsAnswer moved start.place.version to (tree_of new))
  -- After every error but a failure of the disk it is as it was, at every moment.
  pub kept : IfErr result (λ e. e ≢ Failed → IsAtHand start old → EachSince (HasStore start.place start.held start.format) old new)
  -- Nothing is changed outside the folder `store`.
  pub outside : IsAtHand start old → Touches (IsBelow (codes "store" ∷ [])) old new
