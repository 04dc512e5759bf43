-- The job of a core.
use Rattle.std.specs.Prelude.{ℕ, ◌+◌, ◌&&◌, Bool, true, false, not, List, length, All, Result, if◌then◌else◌}
use Rattle.settings_tree.specs.declared.entry.Owed.TheVariants as owed
use Rattle.metadata_links.specs.declared.manifest.Manifest.{Manifest}
use Rattle.metadata_links.specs.Links.{files_of, commands_of}
use Rattle.settings_machine.specs.World.{Key, Work, Job, Idle, Failed, Running, owes_none}
use Rattle.settings_machine.specs.declared.cause.Cause.TheVariants as cause
use Rattle.affected_apply.specs.Work.{work_of}
use Rattle.affected_apply.specs.Sees.{HasRow}
use Rattle.affected_apply.specs.Turning.{fine, broken}
use Rattle.affected_apply.specs.declared.job_state.JobState.{JobState}
use Rattle.affected_apply.specs.declared.job_state.JobState.TheVariants as state

-- The job, as the machine sees it.
abbrev pub job_of : JobState → Job
job_of state.Idle = Idle
job_of (state.Failed c) = Failed c
job_of (state.Running job) = Running job.work

-- The manifest has each file that a running job has to do.
abbrev pub HasRows : Manifest → Job → Type 0
HasRows m (Running w) = All (HasRow m) w.files
HasRows m _ = Unit {0}

-- The job failed with Disk.
abbrev pub failed_with_disk : Job → Bool
failed_with_disk (Failed cause.Disk) = true
failed_with_disk _ = false

-- The job failed with Spawn.
abbrev pub failed_to_spawn : Job → Bool
failed_to_spawn (Failed (cause.Spawn service)) = true
failed_to_spawn _ = false

-- What a device answered: whether a call of it failed.
abbrev pub answer_of : Bool → Result Unit (Unit {0})
answer_of true = broken
answer_of false = fine

-- ---- the end of a job

-- Whether the job begins again after its end: it was asked for again, and keys were noted.
abbrev pub begins_again : Work → Bool
begins_again w = w.again && not (owes_none (owed.Keys w.since))

-- The job after one that ended well.
abbrev pub job_after : Manifest → Work → Job
job_after m w = if begins_again w then Running (work_of m (owed.Keys w.since)) else Idle

-- ---- what is left to do

-- The turns of a job of these keys, if none of them fails.
abbrev pub turns_for : Manifest → List Key → ℕ
turns_for m keys = length (files_of m (owed.Keys keys)) + length (commands_of m (owed.Keys keys)) + 1

-- The turns that a job has left, if none of them fails and no more keys are noted.
abbrev pub left_to_do : Manifest → Job → ℕ
left_to_do m (Running w) = length w.files + length w.commands + 1 + (if begins_again w then turns_for m w.since else 0)
left_to_do m _ = 0
