-- A core, and what a planned request comes to.
use Rattle.std.specs.Prelude.{◌≡◌, Bool, true, false, length, [], ◌∷◌, Result, Ok, Err}
use Rattle.outside.specs.History.{History}
use Rattle.outside.specs.declared.disk_error.DiskErr.{DiskErr}
use Rattle.outside.specs.declared.disk_error.DiskErr.TheVariants as disk
use Rattle.settings_machine.specs.World.{Image, World, is_running}
use Rattle.settings_machine.specs.Requests.{Request}
use Rattle.settings_machine.specs.Step.{Outcome, Answered, WithoutMemory, Faulted}
use Rattle.settings_machine.specs.Events.{Asked}
use Rattle.settings_machine.specs.Paid.{IsGood}
use Rattle.settings_machine.specs.Typed.{IsTypedHeld}
use Rattle.machine_disk.specs.Kept.{Folder, CoreState, Kept}
use Rattle.machine_disk.specs.Ran.{Ran}
use Rattle.store_open.specs.Laws.{HoldsImage}
use Rattle.affected_apply.specs.Jobs.{job_of, HasRows}
use Rattle.api_core.specs.declared.serving.Core.{Core}

-- What the machine sees of a core.
abbrev pub core_state : Core → CoreState
core_state c = record { place = c.place; held = c.held; job = job_of c.job; faulted = c.faulted }

-- The data directory is a folder of the store, what is held is typed, the manifest has each file that the job has to do, and no
-- job runs from a failed call of the disk until an opening has succeeded.
pub record IsSound (c : Core) : Type 0 where
  pub two_names : length c.place.directory ≡ 2
  pub typed : IsTypedHeld c.image.model.types c.held
  pub rows : HasRows c.image.manifest (job_of c.job)
  pub still : c.faulted ≡ true → is_running (job_of c.job) ≡ false

-- What the outside let a planned request come to.
abbrev pub HasOutcome : Result Unit DiskErr → Outcome → Type 0
HasOutcome (Ok done) outcome = outcome ≡ Answered
HasOutcome (Err disk.Memory) outcome = outcome ≡ WithoutMemory
HasOutcome (Err disk.Failed) outcome = (taken : Bool) × (outcome ≡ Faulted taken)

-- A request comes to one event of the machine, on the disk and in the core, crash included.
pub record IsEvent (I : Image) (folder : Folder) (W V : World) (q : Request) (result : Result Unit DiskErr) (old new : History) (before now : CoreState) : Type
    0 where
  pub outcome : Outcome
  pub is : HasOutcome result outcome
  pub ran : Ran I folder W V (Asked q outcome ∷ []) old new before now

-- By each image that the core holds, in each world at which disk and core are, a request comes to one event.
pub record Commits (c : Core) (q : Request) (result : Result Unit DiskErr) (now : Core) (old new : History) : Type 0 where
  pub event : (I : Image) → IsGood I → HoldsImage I c.image → (folder : Folder) (W V : World) → Kept I folder W V old (core_state c)
      → IsEvent I folder W V q result old new (core_state c) (core_state now)
