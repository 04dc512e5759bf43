-- What the calls make of the machine's parts is what the machine makes of the world.
use Rattle.std.proofs.Common.{◌≡◌, ℕ, Bool, true, false, if◌then◌else◌, List, Option, Some, None, refl, sym, ◌∙◌, ap}
use Rattle.std.specs.FinMap.{FinMap, get}
use Rattle.key_names.specs.Order.{key_cmp}
use Rattle.json_trees.specs.declared.pending.Pending.{Pending}
use Rattle.settings_tree.specs.declared.entry.Owed.{Owed}
use Rattle.settings_tree.specs.declared.entry.Owed.TheVariants as owed
use Rattle.settings_tree.specs.declared.held.Held.{Held}
use Rattle.pending_tx.specs.Transactions.{keys_of, changed_keys, committed}
use Rattle.settings_machine.specs.World.{Key, Image, World, Job, Idle, Failed, Running, owes_none}
use Rattle.settings_machine.specs.Typed.{Wanted, first_wanted}
use Rattle.settings_machine.specs.Requests.{Patch, DropTx, Commit, Apply, ApplyAll, CommitAndApply, Reply, Empty}
use Rattle.settings_machine.specs.Step.{request_next, with_held, with_job, noting, owing_all, asked_for}
use Rattle.settings_machine.specs.Step.{patch_next, commit_next, commit_and_apply_next, committed_world, applied}
use Rattle.plain_machine.specs.Plain.{IsAnswered, keys_reply, missing_reply}
use Rattle.settings_machine.specs.JobSeen.{job_seen, IsApplied}
use Rattle.plain_machine.specs.Jobs.{noted, with_since, fresh_job, next_job, taken_up}
use Rattle.plain_machine.specs.Steps.{IsAsked}
use Rattle.plain_machine.specs.Worlds.{world_of}
use Rattle.plain_machine.specs.declared.image.PlainImage.{PlainImage}
use Rattle.plain_machine.specs.declared.machine.PlainMachine.{PlainMachine}

-- The world with this held and this job.
abbrev with_both : World → Held → Job → World
with_both W held job = record W { held = held; job = job }

-- What becomes of the world, where a transaction is there or not.
abbrev Pends : Type 0
Pends = Option (FinMap key_cmp Pending)

-- ---- patches, drops and apply: what is held alone changes, or the job alone

module _ (image : PlainImage) (old new : PlainMachine) (tx : List ℕ) where
  pub asked_patch : (pairs : List (Key × Pending)) (reply : Reply) → IsAnswered image.types old.held (Patch tx pairs) new.held reply
      → world_of new ≡ with_held (world_of old) new.held → IsAsked image old (Patch tx pairs) new reply
  unfolding request_next
  asked_patch pairs reply a stays = record {
    world = λ I holds. stays ∙ ap (with_held (world_of old)) (sym (a.makes I (world_of old) (sym holds.types_are) refl))
        ∙ sym (by I (first_wanted I.types pairs));
    says = λ I holds. a.says I (world_of old) (sym holds.types_are) refl;
  } where
    by : (I : Image) (o : Option Wanted) → (patch_next (world_of old) tx pairs o).world ≡ with_held (world_of old)
        (patch_next (world_of old) tx pairs o).world.held
    by I None = refl
    by I (Some wanted) = refl

  pub asked_drop : (reply : Reply) → IsAnswered image.types old.held (DropTx tx) new.held reply
      → world_of new ≡ with_held (world_of old) new.held → IsAsked image old (DropTx tx) new reply
  unfolding request_next
  asked_drop reply a stays = record {
    world = λ I holds. stays ∙ ap (with_held (world_of old)) (sym (a.makes I (world_of old) (sym holds.types_are) refl));
    says = λ I holds. a.says I (world_of old) (sym holds.types_are) refl;
  }

pub asked_apply : (image : PlainImage) (old new : PlainMachine) → IsApplied image.manifest old.held.owed (job_seen old.job) (job_seen new.job)
    → world_of new ≡ with_job (world_of old) (job_seen new.job) → IsAsked image old Apply new Empty
unfolding request_next
asked_apply image old new a stays = record {
  world = λ I holds. stays ∙ ap (with_job (world_of old)) (sym (a.makes I (world_of old) (sym holds.manifest_is) refl refl));
  says = λ I holds. refl;
}

pub asked_apply_all : (image : PlainImage) (old new : PlainMachine) → IsApplied image.manifest owed.All (job_seen old.job) (job_seen new.job)
    → world_of new ≡ with_job (owing_all (world_of old)) (job_seen new.job) → IsAsked image old ApplyAll new Empty
unfolding request_next
asked_apply_all image old new a stays = record {
  world = λ I holds. stays
      ∙ ap (with_job (owing_all (world_of old))) (sym (a.makes I (owing_all (world_of old)) (sym holds.manifest_is) refl refl));
  says = λ I holds. refl;
}

-- ---- the job after a commit, and after apply

pub noting_is : (j : Job) (keys : List Key) → with_since j (noted j keys) ≡ noting j keys
noting_is Idle keys = refl
noting_is (Failed c) keys = refl
noting_is (Running w) keys = refl

pub taken_is : (I : Image) (o : Owed) (j : Job) (keys : List Key)
    → taken_up (noting j keys) (next_job I o j) ≡ (if owes_none o then Idle else asked_for I o (noting j keys))
taken_is I o j keys = by (owes_none o) j where
  by : (b : Bool) (j : Job) → taken_up (noting j keys) (if b then Some Idle else fresh_job I o j) ≡ (if b then Idle else asked_for I o (noting j keys))
  by true Idle = refl
  by true (Failed c) = refl
  by true (Running w) = refl
  by false Idle = refl
  by false (Failed c) = refl
  by false (Running w) = refl

-- ---- commits

module _ (image : PlainImage) (old : PlainMachine) (tx : List ℕ) where
  pub asked_missing : get old.held.pending tx ≡ None → IsAsked image old (Commit tx) old (missing_reply tx)
  unfolding request_next
  asked_missing none = record {
    world = λ I holds. sym (ap (λ (o : Pends). (commit_next (world_of old) tx o).world) none);
    says = λ I holds. ap (λ (o : Pends). (commit_next (world_of old) tx o).reply) none;
  }

  pub asked_both_missing : get old.held.pending tx ≡ None → IsAsked image old (CommitAndApply tx) old (missing_reply tx)
  unfolding request_next
  asked_both_missing none = record {
    world = λ I holds. sym (ap (λ (o : Pends). (commit_and_apply_next I (world_of old) tx o).world) none);
    says = λ I holds. ap (λ (o : Pends). (commit_and_apply_next I (world_of old) tx o).reply) none;
  }

  module _ (there : get old.held.pending tx ≡ None → ⊥) (new : PlainMachine) (keys : List Key) (are : keys ≡ keys_of old.held tx)
      (laid : new.held ≡ committed old.held tx) where
    pub asked_commit : job_seen new.job ≡ noting (job_seen old.job) (changed_keys old.held tx)
        → world_of new ≡ with_both (world_of old) new.held (job_seen new.job) → IsAsked image old (Commit tx) new (keys_reply keys)
    unfolding request_next
    asked_commit job stays = record {
      world = λ I holds. stays ∙ ap (λ (h : Held). with_both (world_of old) h (job_seen new.job)) laid
          ∙ ap (with_both (world_of old) (committed old.held tx)) job
          ∙ sym (at (get old.held.pending tx) there);
      says = λ I holds. said (get old.held.pending tx) there ∙ ap keys_reply (sym are);
    } where
      at : (o : Pends) → (o ≡ None → ⊥) → (commit_next (world_of old) tx o).world ≡ committed_world (world_of old) tx
      at None some = absurd (some refl)
      at (Some p) some = refl

      said : (o : Pends) → (o ≡ None → ⊥) → (commit_next (world_of old) tx o).reply ≡ keys_reply (keys_of old.held tx)
      said None some = absurd (some refl)
      said (Some p) some = refl

    pub asked_both : ((I : Image) → I.manifest ≡ image.manifest
        → job_seen new.job ≡ taken_up (noting (job_seen old.job) (changed_keys old.held tx)) (next_job I new.held.owed (job_seen old.job)))
        → world_of new ≡ with_both (world_of old) new.held (job_seen new.job) → IsAsked image old (CommitAndApply tx) new (keys_reply keys)
    unfolding request_next
    asked_both job stays = record {
      world = λ I holds. stays
          ∙ ap (with_both (world_of old) new.held) (job I (sym holds.manifest_is) ∙ taken_is I new.held.owed (job_seen old.job) (changed_keys old.held tx))
          ∙ ap (λ (h : Held). with_both (world_of old) h (after I h)) laid
          ∙ sym (at I (get old.held.pending tx) there);
      says = λ I holds. said I (get old.held.pending tx) there ∙ ap keys_reply (sym are);
    } where
      after : Image → Held → Job
      after I h = if owes_none h.owed then Idle else asked_for I h.owed (noting (job_seen old.job) (changed_keys old.held tx))

      at : (I : Image) (o : Pends) → (o ≡ None → ⊥) → (commit_and_apply_next I (world_of old) tx o).world ≡ applied I (committed_world (world_of old) tx)
      at I None some = absurd (some refl)
      at I (Some p) some = refl

      said : (I : Image) (o : Pends) → (o ≡ None → ⊥) → (commit_and_apply_next I (world_of old) tx o).reply ≡ keys_reply (keys_of old.held tx)
      said I None some = absurd (some refl)
      said I (Some p) some = refl
