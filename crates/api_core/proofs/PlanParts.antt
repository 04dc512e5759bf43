-- Plans, and files as they would be, as readings.
use Rattle.std.proofs.Common.{◌≡◌, ℕ, Bool, if◌then◌else◌, List, [], Option, Some, None, IsSome, is_some, unwrap_or, refl, sym, ◌∙◌, ap, subst}
use Rattle.std.specs.FinMap.{FinMap, empty, get}
use Rattle.key_names.specs.Order.{key_cmp}
use Rattle.json_trees.specs.declared.pending.Pending.{Pending}
use Rattle.settings_tree.specs.Content.{Contents}
use Rattle.settings_tree.specs.Laid.{laid}
use Rattle.settings_tree.specs.declared.entry.Owed.{Owed}
use Rattle.settings_tree.specs.Over.{laid_over}
use Rattle.pending_tx.specs.Transactions.{changed_in, changed_keys, committed, owing, pending_of}
use Rattle.metadata_links.specs.declared.manifest.Manifest.{Manifest}
use Rattle.settings_machine.specs.declared.refusal.Refusal.TheVariants.{NoName}
use Rattle.settings_machine.specs.World.{Key, Image, rendered}
use Rattle.settings_machine.specs.Requests.{Request, Plan, PlanFile, Reply, Said, Refused, PlanIs}
use Rattle.settings_machine.specs.Plans.{plan_of, committed_plan, rendered_reply, committed_file, planned_file}
use Rattle.settings_machine.specs.Step.{Next, stays}
use Rattle.affected_apply.specs.Jobs.{job_of}
use Rattle.machine_answers.specs.Replies.{reply_of}
use Rattle.machine_answers.specs.declared.answer.Answer.{Answer}
use Rattle.api_core.specs.Jobs.{job_after}
use Rattle.api_core.specs.Plans.{IsReading, Plans, with_core}
use Rattle.api_core.specs.Planning.{PlansOver, RendersOver}
use Rattle.api_core.specs.declared.next_job.NextJob.{NextJob}
use Rattle.api_core.specs.declared.next_job.NextJob.TheVariants.{Stay}
use Rattle.api_core.specs.declared.planned.Effect.{Effect}
use Rattle.api_core.specs.declared.serving.Core.{Core}

-- A reading is planned without an effect.
pub reading_planned : (c : Core) (q : Request) (a b : Answer) (effect : Effect) → b ≡ a → effect.change ≡ [] → effect.next ≡ Stay → IsReading c q a
    → Plans c q b effect
reading_planned c q a b effect same change next reads = record {
  by_image = λ I types os manifest templates. record {
    held_is = λ W version. ap (laid c.held) change
        ∙ ap (λ (n : Next). n.world.held) (sym (reads.changes_nothing I os manifest templates W version));
    job_is = λ W version. ap (λ (j : NextJob). job_after j (job_of c.job)) next
        ∙ ap (λ (n : Next). n.world.job) (sym (reads.changes_nothing I os manifest templates W version));
    replies = λ W version. ap (λ (n : Next). n.reply) (reads.changes_nothing I os manifest templates W version) ∙ ap reply_of (sym same);
  };
}

abbrev Pends : Type 0
Pends = Option (FinMap key_cmp Pending)

module _ (c : Core) where
  pub same_plan : (live l : Contents) (owed o : Owed) (changed k : List Key) (a : Answer) → live ≡ l → owed ≡ o → changed ≡ k → PlansOver c live owed changed a
      → PlansOver c l o k a
  same_plan live l owed o changed k a same_live same_owed same_keys plans =
      subst (λ (x : Contents). PlansOver c x o k a) same_live (subst (λ (x : Owed). PlansOver c live x k a) same_owed
      (subst (λ (x : List Key). PlansOver c live owed x a) same_keys plans))

  pub same_file : (live l : Contents) (file : List ℕ) (a : Answer) → live ≡ l → RendersOver c live file a → RendersOver c l file a
  same_file live l file a same renders = subst (λ (x : Contents). RendersOver c x file a) same renders

  -- ---- plans

  module _ (tx : List ℕ) where
    pub plan_after : (a : Answer) → (get c.held.pending tx ≡ None → ⊥) → PlansOver c (committed c.held tx).live
        (committed c.held tx).owed (changed_keys c.held tx)
        a → IsReading c (Plan (Some tx)) a
    plan_after a there plans = record {
      changes_nothing = λ I os manifest templates W version. ap (stays (with_core W c.held (job_of c.job)))
          (by I (get c.held.pending tx) there ∙ plans.plans I os manifest templates (committed c.held tx) refl refl);
    } where
      by : (I : Image) (o : Pends) → (o ≡ None → ⊥) → committed_plan I c.held tx o
          ≡ Said (PlanIs (plan_of I (changed_keys c.held tx) (committed c.held tx)))
      by I None there = absurd (there refl)
      by I (Some p) there = refl

    -- What the transaction has pending is what is laid over the live settings.
    keys_are : (m : FinMap key_cmp Pending) → Some m ≡ get c.held.pending tx → m ≡ pending_of c.held tx
    keys_are m is = ap (λ (o : Pends). unwrap_or o empty) is

    some_there : (m : FinMap key_cmp Pending) → Some m ≡ get c.held.pending tx → get c.held.pending tx ≡ None → ⊥
    some_there m is none = cc (is, none)

    pub plan_of_keys : (m : FinMap key_cmp Pending) (changed : List Key) (owed : Owed) (a : Answer) → Some m ≡ get c.held.pending tx
        → changed ≡ changed_in c.held m → owed ≡ owing c.held.owed changed → PlansOver c (laid_over c.held.live m) owed changed a
        → IsReading c (Plan (Some tx)) a
    plan_of_keys m changed owed a is is_changed is_owed plans =
        let keys = keys_are m is in
        let all = is_changed ∙ ap (changed_in c.held) keys in
        plan_after a (some_there m is) (same_plan _ _ _ _ _ _ a (ap (laid_over c.held.live) keys) (is_owed ∙ ap (owing c.held.owed) all) all plans)

  -- ---- files

  module _ (file : List ℕ) where
    module _ (known : IsSome (get c.image.manifest.files file)) where
      told : (I : Image) → c.image.manifest ≡ I.manifest → (r : Reply) → (if is_some (get I.manifest.files file) then r else Refused (NoName file)) ≡ r
      told I manifest r = ap (λ (b : Bool). if b then r else Refused (NoName file))
          (ap (λ (m : Manifest). is_some (get m.files file)) (sym manifest) ∙ known)

      pub file_after : (tx : List ℕ) (a : Answer) → (get c.held.pending tx ≡ None → ⊥) → RendersOver c (committed c.held tx).live file a
          → IsReading c (PlanFile file (Some tx)) a
      file_after tx a there renders = record {
        changes_nothing = λ I os manifest templates W version. ap (stays (with_core W c.held (job_of c.job)))
            (told I manifest (planned_file I c.held file (Some tx)) ∙ by I (get c.held.pending tx) there ∙ renders.renders I os templates);
      } where
        by : (I : Image) (o : Pends) → (o ≡ None → ⊥) → committed_file I c.held file tx o ≡ rendered_reply file (rendered I file (committed c.held tx).live)
        by I None there = absurd (there refl)
        by I (Some p) there = refl

      pub file_of_keys : (tx : List ℕ) (m : FinMap key_cmp Pending) (a : Answer) → Some m ≡ get c.held.pending tx
          → RendersOver c (laid_over c.held.live m) file a → IsReading c (PlanFile file (Some tx)) a
      file_of_keys tx m a is renders = file_after tx a (some_there tx m is) (same_file _ _ file a (ap (laid_over c.held.live) (keys_are tx m is)) renders)
