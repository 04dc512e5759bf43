-- Plans and files over what is held, or would be, are what the machine answers.
use Rattle.std.proofs.Common.{◌≡◌, ℕ, Bor, Bool, true, false, if◌then◌else◌, List, Option, Some, None, is_some, Result, Ok, Err, refl, sym, ◌∙◌, ap}
use Rattle.std.specs.FinMap.{FinMap, get}
use Rattle.std.specs.Option.{option_copied}
use Rattle.key_names.specs.Order.{key_cmp}
use Rattle.json_trees.specs.declared.pending.Pending.{Pending}
use Rattle.settings_tree.specs.declared.held.Held.{Held}
use Rattle.metadata_links.specs.declared.manifest.Manifest.{Manifest}
use Rattle.settings_machine.specs.World.{Image, rendered}
use Rattle.settings_machine.specs.Plans.{plan_of, committed_plan, plan_reply, rendered_reply, committed_file, planned_file, file_reply}
use Rattle.settings_machine.specs.Requests.{Planned, Plan, PlanFile, PlanIs, FileIs, Reply, Said, Refused}
use Rattle.settings_machine.specs.Step.{request_next}
use Rattle.settings_machine.specs.declared.refusal.Refusal.{Refusal}
use Rattle.settings_machine.specs.declared.refusal.Refusal.TheVariants.{NoName}
use Rattle.plain_machine.specs.Changes.{after_pending, unless_missing, after_of, IsFileOver}
use Rattle.plain_machine.specs.Plain.{reply_by}
use Rattle.plain_machine.specs.Steps.{HoldsImage, IsAsked}
use Rattle.plain_machine.specs.declared.after.After.{After}
use Rattle.plain_machine.specs.declared.image.PlainImage.{PlainImage}
use Rattle.plain_machine.specs.declared.machine.PlainMachine.{PlainMachine}

-- Whether a row is found is whether it is there.
pub found_is : {X : Type 0} (o : Option (Bor X)) → is_some (option_copied o) ≡ is_some o
found_is None = refl
found_is (Some row) = refl

pub none_there : {X : Type 0} (o : Option X) → is_some o ≡ false → o ≡ None
none_there None none = refl
none_there (Some x) none = absurd (cc none)

-- A transaction is there or not.
abbrev Pends : Type 0
Pends = Option (FinMap key_cmp Pending)

-- What is answered of what is held, or would be, unless that is refused.
abbrev told_of : (After → Reply) → Result After Refusal → Reply
told_of tells (Ok after) = tells after
told_of tells (Err refusal) = Refused refusal

module _ (I : Image) (held : Held) where
  -- A plan is that over what is held, or would be,
  plan_over : After → Reply
  plan_over after = Said (PlanIs (plan_of I after.changed after.held))

  planned_so : (tx : Option (List ℕ)) → plan_reply I held tx ≡ told_of plan_over (after_of held tx)
  unfolding plan_over
  planned_so None = refl
  planned_so (Some tx) = by (get held.pending tx) where
    by : (o : Pends) → committed_plan I held tx o ≡ told_of plan_over (unless_missing tx (after_pending held tx o))
    by None = refl
    by (Some p) = refl

  -- and so is a file.
  file_over : List ℕ → After → Reply
  file_over file after = rendered_reply file (rendered I file after.held.live)

  filed_so : (file : List ℕ) (tx : Option (List ℕ)) → planned_file I held file tx ≡ told_of (file_over file) (after_of held tx)
  unfolding file_over
  filed_so file None = refl
  filed_so file (Some tx) = by (get held.pending tx) where
    by : (o : Pends) → committed_file I held file tx o ≡ told_of (file_over file) (unless_missing tx (after_pending held tx o))
    by None = refl
    by (Some p) = refl

module _ (image : PlainImage) (m : PlainMachine) (tx : Option (List ℕ)) where
  -- A reading leads to the same world.
  pub asked_plan : (after : After) (plan : Planned) → Ok after ≡ after_of m.held tx
      → ((I : Image) → HoldsImage I image → plan_of I after.changed after.held ≡ plan) → IsAsked image m (Plan tx) m (Said (PlanIs plan))
  unfolding request_next plan_over
  asked_plan after plan is plans = record {
    world = λ I holds. refl;
    says = λ I holds. planned_so I m.held tx ∙ ap (told_of (plan_over I m.held)) (sym is) ∙ ap (λ (p : Planned). Said (PlanIs p)) (plans I holds);
  }

  pub asked_plan_refused : (r : Refusal) → Err r ≡ after_of m.held tx → IsAsked image m (Plan tx) m (Refused r)
  unfolding request_next
  asked_plan_refused r is = record {
    world = λ I holds. refl;
    says = λ I holds. planned_so I m.held tx ∙ ap (told_of (plan_over I m.held)) (sym is);
  }

  module _ (file : List ℕ) where
    pub asked_no_file : get image.manifest.files file ≡ None → IsAsked image m (PlanFile file tx) m (Refused (NoName file))
    unfolding request_next
    asked_no_file none = record {
      world = λ I holds. refl;
      says = λ I holds. ap (λ (b : Bool). if b then planned_file I m.held file tx else Refused (NoName file))
          (ap (λ (n : Manifest). is_some (get n.files file)) (sym holds.manifest_is) ∙ ap is_some none);
    }

    module _ (known : is_some (get image.manifest.files file) ≡ true) where
      file_told : (I : Image) → HoldsImage I image → file_reply I m.held file tx ≡ told_of (file_over I m.held file) (after_of m.held tx)
      file_told I holds = ap (λ (b : Bool). if b then planned_file I m.held file tx else Refused (NoName file))
          (ap (λ (n : Manifest). is_some (get n.files file)) (sym holds.manifest_is) ∙ known) ∙ filed_so I m.held file tx

      pub asked_file : (after : After) (told : Result (List ℕ) Refusal) → Ok after ≡ after_of m.held tx → IsFileOver image after.held.live file told
          → IsAsked image m (PlanFile file tx) m (reply_by FileIs told)
      unfolding request_next file_over
      asked_file after told is over = record {
        world = λ I holds. refl;
        says = λ I holds. file_told I holds ∙ ap (told_of (file_over I m.held file)) (sym is) ∙ over I holds;
      }

      pub asked_file_refused : (r : Refusal) → Err r ≡ after_of m.held tx → IsAsked image m (PlanFile file tx) m (Refused r)
      unfolding request_next
      asked_file_refused r is = record {
        world = λ I holds. refl;
        says = λ I holds. file_told I holds ∙ ap (told_of (file_over I m.held file)) (sym is);
      }
