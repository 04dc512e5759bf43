-- A store is moved, and the programs on the way are asked.
use Rattle.std.specs.Prelude.{◌≡◌, ◌⊎◌, ◌++◌, [], List, Option, Some, Result, Ok, Err}
use Rattle.outside.specs.History.{History}
use Rattle.outside.specs.Told.{Moves}
use Rattle.outside.specs.Spawner.{Question}
use Rattle.settings_tree.specs.declared.held.Held.{Held}
use Rattle.version_links.specs.declared.version.Version.{Version}
use Rattle.release_file.specs.declared.release.Release.{Release}
use Rattle.migrate_chain.specs.Errors.{of_task}
use Rattle.migrate_chain.specs.Migrating.{Migrates}
use Rattle.migrate_chain.specs.Moving.{IsRefusal}
use Rattle.migrate_chain.specs.Tasks.{Task, Mapped, Refused, refusals_of}
use Rattle.migrate_chain.specs.declared.task_error.TaskError.{TaskError}
use Rattle.migrate_chain.specs.declared.move_error.MoveError.{MoveError}
use Rattle.migrate_chain.specs.declared.moving.Moved.{Moved}
use Rattle.migrate_chain.specs.Asking.{Asks, AreAsked}

-- The error is none of the migrations', so no further program was asked.
pub record EndsQuiet (error : MoveError) (last : List Question) : Type 0 where
  pub quiet : IsRefusal error → ⊥
  pub none : last ≡ []

-- The error is that of a migration, which is noted where it is a refusal, and its program was asked last.
pub record EndsTurned (refused : List Refused) (error : MoveError) (last : List Question) : Type 0 where
  pub task : Task
  pub input : Held
  pub why : TaskError
  pub error_is : error ≡ of_task why
  pub refused_are : refused ≡ refusals_of task input why
  pub asks : Asks task input (Err why) last

-- What was asked after the migrations that were carried out.
abbrev pub AsksLast : List Refused → Result Moved MoveError → List Question → Type 0
AsksLast refused (Ok moved) last = last ≡ []
AsksLast refused (Err error) last = EndsQuiet error last ⊎ EndsTurned refused error last

-- One question was asked for each program that was carried out, in their order, and at most one more for the one that met an error.
pub record HasAskedAll (mapped : List Mapped) (refused : List Refused) (result : Result Moved MoveError) (old new : List Question) : Type 0 where
  pub asked : List Question
  pub last : List Question
  pub new_is : new ≡ old ++ asked ++ last
  pub are : AreAsked mapped asked
  pub ends : AsksLast refused result last

-- The store was moved by these migrations, and for them alone the programs were asked.
pub record MovesByPrograms (to : Version) (release : Release) (result : Result Moved MoveError) (d d' : Option History)
    (a a' : Option (List Question)) : Type 0 where
  pub mapped : List Mapped
  pub refused : List Refused
  pub migrates : Moves d d' (Migrates to release.transitions.items release.migrations.items (Some []) (Some mapped) (Some []) (Some refused) result)
  pub asked : Moves a a' (HasAskedAll mapped refused result)
