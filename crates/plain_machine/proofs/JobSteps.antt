-- What the steps of a job make of it.
use Rattle.std.proofs.Common.{◌≡◌, Bool, true, false, if◌then◌else◌, List, [], Option, Some, None, refl, ◌∙◌, ap}
use Rattle.settings_tree.specs.declared.entry.Owed.{Owed}
use Rattle.settings_machine.specs.declared.job.Job as plain
use Rattle.settings_machine.specs.declared.job.Job.TheVariants as plain_job
use Rattle.settings_machine.specs.declared.job.Work as plain_work
use Rattle.settings_machine.specs.World.{Key, Image, Job, Idle, Failed, Running, is_running, owes_none}
use Rattle.settings_machine.specs.Step.{begun}
use Rattle.settings_machine.specs.JobSeen.{job_seen}
use Rattle.plain_machine.specs.Jobs.{noted, fresh_job, next_job}

-- What a job that doesn't run has noted.
pub noted_nothing : (j : Job) (keys : List Key) → is_running j ≡ false → [] ≡ noted j keys
noted_nothing Idle keys still = refl
noted_nothing (Failed c) keys still = refl
noted_nothing (Running w) keys still = absurd (cc still)

module _ (I : Image) (o : Owed) where
  abbrev next_by : Job → Bool → Option Job
  next_by j b = if b then Some Idle else fresh_job I o j

  pub idle_next : (j : Job) → owes_none o ≡ true → next_job I o j ≡ Some Idle
  idle_next j none = ap (next_by j) none

  pub none_next : (j : plain.Job) (w : plain_work.Work) → owes_none o ≡ false → j ≡ plain_job.Running w → next_job I o (job_seen j) ≡ None
  none_next j w some running = ap (next_by (job_seen j)) some ∙ ap (λ (k : plain.Job). fresh_job I o (job_seen k)) running

  pub fresh_next : (j : Job) → owes_none o ≡ false → is_running j ≡ false → next_job I o j ≡ Some (begun I o)
  fresh_next j some still = ap (next_by j) some ∙ by j still where
    by : (j : Job) → is_running j ≡ false → fresh_job I o j ≡ Some (begun I o)
    by Idle is = refl
    by (Failed c) is = refl
    by (Running w) is = absurd (cc is)
