-- What becomes of the job, as the machine sees it.
use Rattle.std.specs.Prelude.{◌≤◌, ⊤, ℕ, true, length, if◌then◌else◌}
use Rattle.metadata_links.specs.declared.manifest.Manifest.{Manifest}
use Rattle.settings_tree.specs.declared.entry.Owed.{Owed}
use Rattle.settings_machine.specs.World.{Image, Job, Idle, Failed, Running, owes_none}
use Rattle.settings_machine.specs.Step.{noting, asked_for}
use Rattle.affected_apply.specs.Jobs.{job_of, HasRows}
use Rattle.affected_apply.specs.declared.job_state.JobState.{JobState}
use Rattle.affected_apply.specs.declared.job_state.JobState.TheVariants as state
use Rattle.api_core.specs.declared.next_job.NextJob.{NextJob}
use Rattle.api_core.specs.declared.next_job.NextJob.TheVariants.{Stay, Noted, Again, NotedAgain, Becomes}

-- A running job is asked for again.
abbrev pub with_again : Job → Job
with_again Idle = Idle
with_again (Failed cause) = Failed cause
with_again (Running w) = Running (record w { again = true })

-- What becomes of the job.
abbrev pub job_after : NextJob → Job → Job
job_after Stay job = job
job_after (Noted keys) job = noting job keys
job_after Again job = with_again job
job_after (NotedAgain keys) job = with_again (noting job keys)
job_after (Becomes next) job = job_of next

-- The job after apply: where nothing is owed it is idle.
abbrev pub applied_job : Image → Owed → Job → Job
applied_job I owed job = if owes_none owed then Idle else asked_for I owed job

-- How many keys a running job notes.
abbrev pub count_noted : NextJob → ℕ
count_noted (Noted keys) = length keys
count_noted (NotedAgain keys) = length keys
count_noted _ = 0

-- A running job has room for the keys that it notes.
abbrev pub HasRoom : NextJob → JobState → Type 0
HasRoom next (state.Running job) = count_noted next ≤ job.spare
HasRoom next _ = ⊤

-- The manifest has each file that a job which begins has to do.
abbrev pub KnowsRows : Manifest → NextJob → Type 0
KnowsRows m (Becomes next) = HasRows m (job_of next)
KnowsRows m _ = ⊤
