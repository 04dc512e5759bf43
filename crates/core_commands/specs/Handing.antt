-- How refusals of lower calls are handed on.
use Rattle.std.specs.Prelude.{◌≡◌, ◌≢◌, ◌≤◌, ◌⊎◌, ⊤, ℕ, List, Option, Some, None, Result, Ok, Err, false}
use Rattle.std.specs.Result.{IsErrOf}
use Rattle.outside.specs.Faults.{Rose}
use Rattle.settings_machine.specs.World.{Job, Idle, Failed, Running, is_running}
use Rattle.settings_machine.specs.Requests as machine
use Rattle.settings_machine.specs.declared.cause.Cause.{Cause}
use Rattle.settings_machine.specs.declared.cause.Cause.TheVariants as cause
use Rattle.store_open.specs.declared.open_error.OpenError.{OpenError}
use Rattle.store_open.specs.declared.open_error.OpenError.TheVariants as opening
use Rattle.command_outcome.specs.declared.refusal.Refusal.{Refusal}
use Rattle.command_outcome.specs.declared.refusal.Refusal.TheVariants as refused

-- Why a store was not opened, as it is.
abbrev pub not_opened : OpenError → Refusal
not_opened opening.NoStore = refused.NoStore
not_opened (opening.BadLink path) = refused.BadLink path
not_opened (opening.BadJournal path) = refused.BadJournal path
not_opened (opening.Damaged path) = refused.Damaged path
not_opened (opening.OldFormat directory) = refused.OldFormat directory
not_opened (opening.BadImage file kind at) = refused.BadImage file kind at
not_opened (opening.IllTyped key) = refused.IllTyped key
not_opened opening.Failed = refused.Disk
not_opened opening.Memory = refused.Memory

-- How a reply that isn't of success is reported.
abbrev pub Tells : machine.Reply → Refusal → Type 0
Tells (machine.Refused r) refusal = refusal ≡ refused.Refused r
Tells machine.NoMemory refusal = refusal ≡ refused.Memory
Tells machine.DiskFault refusal = refusal ≡ refused.Disk
Tells _ refusal = ⊥

-- Why a job failed, as it is.
abbrev pub failed_for : Cause → Refusal
failed_for cause.Disk = refused.Disk
failed_for (cause.Spawn service) = refused.Spawn service
failed_for (cause.Render file error) = refused.Render file error
failed_for (cause.Status service number) = refused.Status service number
failed_for cause.Memory = refused.Memory

-- A program could not be run only where the count rose, and, unless it ran out of memory, the count rose only there. No door is reported.
pub record HasSpawnCause {T : Type 0} (before now : ℕ) (result : Result T Refusal) : Type 0 where
  pub later : before ≤ now
  pub failed : (name : List ℕ) → IsErrOf result (refused.Spawn name) → Rose before now
  pub kept : ((name : List ℕ) → IsErrOf result (refused.Spawn name) → ⊥) → (IsErrOf result refused.Memory → ⊥) → now ≡ before
  pub no_door : IsErrOf result refused.Door → ⊥

-- Why a job failed is reported; or it ran out of memory for that, and the disk had not failed.
abbrev pub HandsCause : Cause → Refusal → Type 0
HandsCause c refusal = (refusal ≡ failed_for c) ⊎ ((refusal ≡ refused.Memory) × (c ≢ cause.Disk))

-- Why the job failed, if it did.
abbrev pub HandsJob : Job → Option Refusal → Type 0
HandsJob Idle None = ⊤
HandsJob (Failed c) (Some refusal) = HandsCause c refusal
HandsJob (Running work) None = ⊤
HandsJob _ _ = ⊥

-- What becomes of a job that is driven to its end: it is idle, or no job ran; or why it failed is reported, or it ran out of memory for that.
abbrev pub Drives : Job → Job → Result Unit Refusal → Type 0
Drives before now (Ok done) = ((is_running before ≡ false) × (now ≡ before)) ⊎ (now ≡ Idle)
Drives before now (Err refusal) = HandsJob now (Some refusal)

-- Why a request was not answered with success: the machine refuses it, or the disk or memory failed.
abbrev pub IsOfRequest : Refusal → Type 0
IsOfRequest (refused.Refused refusal) = ⊤
IsOfRequest refused.Disk = ⊤
IsOfRequest refused.Memory = ⊤
IsOfRequest _ = ⊥
