-- For private clauses: tasks are carried out, and for them alone programs are asked.
use Rattle.std.specs.Prelude.{◌≡◌, ◌⊎◌, ◌++◌, ◌∷◌, [], List, Option, Some, Result, OnOk, IfErr}
use Rattle.outside.specs.History.{History}
use Rattle.outside.specs.Spawner.{Question}
use Rattle.outside.specs.Told.{Moves}
use Rattle.outside.specs.declared.disk_error.DiskErr.{DiskErr}
use Rattle.settings_tree.specs.declared.held.Held.{Held}
use Rattle.version_links.specs.declared.version.Version.{Version}
use Rattle.migrate_chain.specs.Tasks.{Task, Mapped, Refused, Refuses, AreDone}
use Rattle.migrate_chain.specs.Errors.{of_disk, of_task}
use Rattle.migrate_chain.specs.Asking.{HasAskedFor, HasAskedUpTo}
use Rattle.migrate_chain.specs.Moving.{Ends, MovesAlong}
use Rattle.migrate_chain.specs.ByPrograms.{HasAskedAll}
use Rattle.migrate_chain.specs.declared.start.Start.{Start}
use Rattle.migrate_chain.specs.declared.moving.Moved.{Moved}
use Rattle.migrate_chain.specs.declared.task_error.TaskError.{TaskError}
use Rattle.migrate_chain.specs.declared.move_error.MoveError.{MoveError}

-- The tasks were carried out, one after another; these were asked before and after.
pub record IsDone (tasks : List Task) (held made : Held) (a a' : Option (List Question)) : Type 0 where
  pub mapped : List Mapped
  pub done : AreDone tasks held mapped made
  pub asked : Moves a a' (HasAskedFor mapped)

-- The first of the tasks were.
pub record IsPartlyDone (tasks : List Task) (held : Held) (a a' : Option (List Question)) : Type 0 where
  pub first : List Task
  pub left : List Task
  pub are : tasks ≡ first ++ left
  pub reached : Held
  pub done : IsDone first held reached a a'

-- The tasks were carried out up to one that met this error.
pub record StopsAt (tasks : List Task) (held : Held) (a a' : Option (List Question)) (error : TaskError) : Type 0 where
  pub first : List Task
  pub task : Task
  pub left : List Task
  pub are : tasks ≡ first ++ task ∷ left
  pub reached : Held
  pub mapped : List Mapped
  pub done : AreDone first held mapped reached
  pub refused : Refuses task reached error
  pub asked : Moves a a' (HasAskedUpTo mapped task reached error)

-- A task met an error, or the disk failed after some of them.
abbrev pub StopsEarly : List Task → Held → Option (List Question) → Option (List Question) → MoveError → Type 0
StopsEarly tasks held a a' error = ((e : DiskErr) × (error ≡ of_disk e) × IsPartlyDone tasks held a a')
    ⊎ ((e : TaskError) × (error ≡ of_task e) × StopsAt tasks held a a' e)

-- The store is moved along the tasks, and for them alone programs are asked.
pub record MovesBy (start : Start) (tasks : List Task) (to : Version) (result : Result Moved MoveError) (d d' : Option History)
    (a a' : Option (List Question)) : Type 0 where
  pub mapped : List Mapped
  pub refused : List Refused
  pub moves : Moves d d' (MovesAlong start tasks to (Some []) (Some mapped) result)
  pub not_refused : OnOk result (Some refused ≡ Some [])
  pub ends : IfErr result (Ends tasks start.held (Some []) (Some mapped) (Some []) (Some refused))
  pub asked : Moves a a' (HasAskedAll mapped refused result)
