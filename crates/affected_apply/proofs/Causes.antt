-- What failed in turns.
use Rattle.std.proofs.Common.{◌≡◌, ℕ, Bool, true, false, Result, refl, ◌∙◌, ap, subst, arith, ◌&&◌, if◌then◌else◌}
use Rattle.outside.specs.Faults.{HasCause}
use Rattle.settings_tree.specs.declared.entry.Owed.TheVariants as owed
use Rattle.metadata_links.specs.declared.manifest.Manifest.{Manifest}
use Rattle.settings_machine.specs.World.{Work, Job, Idle, Running, Failed, is_running}
use Rattle.affected_apply.specs.Work.{work_of}
use Rattle.affected_apply.specs.Turning.{fine}
use Rattle.affected_apply.specs.Jobs.{begins_again, job_after, failed_with_disk, failed_to_spawn, answer_of}

-- After calls that were answered well.
pub cause_after : {answer : Result Unit (Unit {0})} (before mid now : ℕ) → HasCause before mid fine → HasCause mid now answer → HasCause before now answer
cause_after {answer} before mid now well cause = subst (λ (n : ℕ). HasCause n now answer) well.kept cause

-- The job that follows one that ended well hasn't failed.
pub after_fine : (m : Manifest) (w : Work) (next : Job) → next ≡ job_after m w → failed_with_disk next ≡ false
after_fine m w next is = ap failed_with_disk is ∙ by (begins_again w) where
  by : (b : Bool) → failed_with_disk (if b then Running (work_of m (owed.Keys w.since)) else Idle) ≡ false
  by true = refl
  by false = refl

-- ---- turns one after another

-- A running job hasn't failed.
pub running_fine : (j : Job) → is_running j ≡ true → failed_with_disk j ≡ false
running_fine Idle e = absurd (cc e)
running_fine (Failed c) e = absurd (cc e)
running_fine (Running w) e = refl

-- Nor to run a program.
pub running_unspawned : (j : Job) → is_running j ≡ true → failed_to_spawn j ≡ false
running_unspawned Idle e = absurd (cc e)
running_unspawned (Failed c) e = absurd (cc e)
running_unspawned (Running w) e = refl

-- Before the first turn none has failed.
pub first_fine : (j : Job) → (is_running j && failed_with_disk j) ≡ false
first_fine Idle = refl
first_fine (Failed c) = refl
first_fine (Running w) = refl

-- Nor to run a program.
pub first_unspawned : (j : Job) → (is_running j && failed_to_spawn j) ≡ false
first_unspawned Idle = refl
first_unspawned (Failed c) = refl
first_unspawned (Running w) = refl

-- Where none has failed the count stays.
pub no_cause : (b : Bool) → b ≡ false → (n : ℕ) → HasCause n n (answer_of b)
no_cause true e n = absurd (cc e)
no_cause false e n = record { later = omega arith; failed = tt; kept = refl }

-- One more turn of a job that ran.
pub cause_more : (before mid now : ℕ) (ran one two : Bool) → ran ≡ true → one ≡ false → HasCause before mid (answer_of (ran && one))
    → HasCause mid now (answer_of two) → HasCause before now (answer_of (ran && two))
cause_more before mid now false one two ran fine first second = absurd (cc ran)
cause_more before mid now true true two ran fine first second = absurd (cc fine)
cause_more before mid now true false two ran fine first second = cause_after before mid now first second
