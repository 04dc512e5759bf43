-- What a program makes of its job is what the machine makes.
use Rattle.std.proofs.Common.{◌≡◌, Bool, true, false, ◌||◌, if◌then◌else◌, refl, ◌∙◌, ap}
use Rattle.settings_tree.specs.declared.entry.Owed.{Owed}
use Rattle.metadata_links.specs.declared.manifest.Manifest.{Manifest}
use Rattle.settings_machine.specs.declared.job.Job as plain
use Rattle.settings_machine.specs.declared.job.Job.TheVariants as plain_job
use Rattle.settings_machine.specs.declared.job.Work as plain_work
use Rattle.settings_machine.specs.World.{Image, World, Work, Job, Idle, Failed, Running, is_running, owes_none}
use Rattle.settings_machine.specs.Step.{asked_for, begun, request_next}
use Rattle.settings_machine.specs.JobSeen.{job_seen, IsApplied}

-- A job that is seen as no running one.
pub not_running : (j : plain.Job) → ((w : plain_work.Work) → j ≡ plain_job.Running w → ⊥) → is_running (job_seen j) ≡ false
not_running plain_job.Idle none = refl
not_running (plain_job.Failed cause) none = refl
not_running (plain_job.Running w) none = absurd (none w refl)

-- Where something is owed and no job runs, one has to begin.
pub none_begins : {P : Type 0} (o : Owed) (j : plain.Job) → owes_none o ≡ false → ((w : plain_work.Work) → j ≡ plain_job.Running w → ⊥)
    → (owes_none o || is_running (job_seen j)) ≡ true → P
none_begins o j some none else' = absurd (cc (ap (λ b. b || is_running (job_seen j)) some, not_running j none, else'))

module _ (m : Manifest) (o : Owed) where
  abbrev job_at : Image → World → Bool → Job
  job_at I W b = if b then Idle else asked_for I W.held.owed W.job

  pub idle_is : (old : Job) → owes_none o ≡ true → IsApplied m o old Idle
  unfolding request_next
  idle_is old none = record { makes = λ I W manifest owed job. ap (job_at I W) (ap owes_none owed ∙ none) }

  pub again_is : (old : Job) (w : Work) → owes_none o ≡ false → old ≡ Running w → IsApplied m o old (Running (record w { again = true }))
  unfolding request_next
  again_is old w some is = record { makes = λ I W manifest owed job. ap (job_at I W) (ap owes_none owed ∙ some) ∙ ap (asked_for I W.held.owed) (job ∙ is) }

  pub begun_is : (old new : Job) → owes_none o ≡ false → is_running old ≡ false → ((I : Image) → I.manifest ≡ m → begun I o ≡ new) → IsApplied m o old new
  unfolding request_next
  begun_is old new some still makes = record {
    makes = λ I W manifest owed job. ap (job_at I W) (ap owes_none owed ∙ some) ∙ by I W.held.owed W.job (ap is_running job ∙ still) ∙ ap (begun I) owed
        ∙ makes I manifest;
  } where
    by : (I : Image) (p : Owed) (j : Job) → is_running j ≡ false → asked_for I p j ≡ begun I p
    by I p Idle still' = refl
    by I p (Failed c) still' = refl
    by I p (Running w) still' = absurd (cc still')
