-- A guarded change is refused, or it is what it is without the guard.
use Rattle.std.proofs.Common.{◌≡◌, ℕ, Bool, true, false, if◌then◌else◌, List, [], Option, Some, None, IsSome, is_some, refl, sym, ◌∙◌, ap}
use Rattle.std.specs.Option.{option_map}
use Rattle.std.specs.FinMap.{FinMap, get}
use Rattle.key_names.specs.Order.{key_cmp}
use Rattle.json_trees.specs.declared.pending.Pending.{Pending}
use Rattle.settings_tree.specs.Content.{Contents}
use Rattle.settings_tree.specs.Laid.{laid}
use Rattle.settings_tree.specs.declared.entry.Owed.TheVariants as owed
use Rattle.settings_tree.specs.declared.held.Held.{Held}
use Rattle.pending_tx.specs.Transactions.{changed_keys, committed, changed_in, last_of, set_at_once}
use Rattle.metadata_links.specs.Links.{files_of}
use Rattle.template_eval.specs.declared.render_error.RenderError.{RenderError}
use Rattle.settings_machine.specs.declared.refusal.Refusal.{Refusal}
use Rattle.settings_machine.specs.declared.refusal.Refusal.TheVariants.{NotRendered}
use Rattle.settings_machine.specs.World.{Key, Image, World}
use Rattle.settings_machine.specs.Seen.{HoldsTemplates}
use Rattle.settings_machine.specs.Typed.{Wanted, first_wanted}
use Rattle.typed_settings.specs.declared.row.Row.{Row}
use Rattle.settings_machine.specs.Requests.{Request, Refused, Commit, CommitAndApply, Set, Guarded, is_success}
use Rattle.settings_machine.specs.Plans.{first_refusing}
use Rattle.settings_machine.specs.Step.{Next, stays, unless_refusing, guarded_next, commit_next, commit_and_apply_next, set_next, answered}
use Rattle.affected_apply.specs.Jobs.{job_of}
use Rattle.machine_answers.specs.declared.answer.Answer.{Answer}
use Rattle.machine_answers.specs.declared.answer.Answer.TheVariants as answer
use Rattle.api_core.specs.Jobs.{job_after}
use Rattle.api_core.specs.Plans.{Guards, Plans, IsPlanned, with_core}
use Rattle.api_core.specs.declared.next_job.NextJob.{NextJob}
use Rattle.api_core.specs.declared.next_job.NextJob.TheVariants.{Stay}
use Rattle.api_core.specs.declared.planned.Effect.{Effect}
use Rattle.api_core.specs.declared.serving.Core.{Core}

-- What comes next where a change is refused for this, if it is.
abbrev refused_or : World → Next → Option Refusal → Next
refused_or W n None = n
refused_or W n (Some r) = stays W (Refused r)

-- A change that would be made, and after which these values are live, is refused where a template refuses on them.
guarded_as : (I : Image) (W : World) (changed : List Key) (n : Next) (live : Contents) (refusal : Option Refusal) → is_success n.reply ≡ true
    → n.world.held.live ≡ live → refusal ≡ option_map (λ r. NotRendered r.0 r.1) (first_refusing I live (files_of I.manifest (owed.Keys changed)))
    → guarded_next I W changed n ≡ refused_or W n refusal
guarded_as I W changed n live refusal success same is =
    ap by_success success ∙ ap (λ (l : Contents). unless_refusing W n (first_refusing I l (files_of I.manifest (owed.Keys changed)))) same
    ∙ unless (first_refusing I live (files_of I.manifest (owed.Keys changed))) ∙ ap (refused_or W n) (sym is)
  where
    by_success : Bool → Next
    by_success b = if b then unless_refusing W n (first_refusing I n.world.held.live (files_of I.manifest (owed.Keys changed))) else n

    unless : (o : Option (List ℕ × RenderError)) → unless_refusing W n o ≡ refused_or W n (option_map (λ r. NotRendered r.0 r.1) o)
    unless None = refl
    unless (Some r) = refl

-- One that is refused for another cause is refused for that.
guarded_not : (I : Image) (W : World) (changed : List Key) (n : Next) → is_success n.reply ≡ false → guarded_next I W changed n ≡ n
guarded_not I W changed n refused' =
    ap (λ (b : Bool). if b then unless_refusing W n (first_refusing I n.world.held.live (files_of I.manifest (owed.Keys changed))) else n) refused'

-- A request comes to a refusal of its guard, or to what it is without the guard.
pub record Comes (c : Core) (q : Request) (refusal : Option Refusal) : Type 0 where
  pub to : (I : Image) → c.image.model.types ≡ I.types → c.image.model.os ≡ I.os → c.image.manifest ≡ I.manifest → HoldsTemplates I c.image.templates
      → (W : World) → answered I (with_core W c.held (job_of c.job)) (Guarded q)
      ≡ refused_or (with_core W c.held (job_of c.job)) (answered I (with_core W c.held (job_of c.job)) q) refusal

pub passes : (c : Core) (q : Request) → Comes c q None → (a : Answer) (effect : Effect) → Plans c q a effect → Plans c (Guarded q) a effect
passes c q comes a effect planned = record {
  by_image = λ I types os manifest templates.
      let p : IsPlanned I c.place.version c.held (job_of c.job) q a effect = planned.by_image I types os manifest templates in
      record {
        held_is = λ W version. p.held_is W version ∙ ap (λ (n : Next). n.world.held) (sym (comes.to I types os manifest templates W));
        job_is = λ W version. p.job_is W version ∙ ap (λ (n : Next). n.world.job) (sym (comes.to I types os manifest templates W));
        replies = λ W version. ap (λ (n : Next). n.reply) (comes.to I types os manifest templates W) ∙ p.replies W version;
      };
}

pub refuses : (c : Core) (q : Request) (r : Refusal) → Comes c q (Some r) → (effect : Effect) → effect.change ≡ [] → effect.next ≡ Stay
    → Plans c (Guarded q) (answer.Refused r) effect
refuses c q r comes effect change next = record {
  by_image = λ I types os manifest templates. record {
    held_is = λ W version. ap (laid c.held) change ∙ ap (λ (n : Next). n.world.held) (sym (comes.to I types os manifest templates W));
    job_is = λ W version. ap (λ (j : NextJob). job_after j (job_of c.job)) next
        ∙ ap (λ (n : Next). n.world.job) (sym (comes.to I types os manifest templates W));
    replies = λ W version. ap (λ (n : Next). n.reply) (comes.to I types os manifest templates W);
  };
}

-- ---- commits

abbrev Pends : Type 0
Pends = Option (FinMap key_cmp Pending)

module _ (c : Core) (tx : List ℕ) (refusal : Option Refusal)
    (there : IsSome (get c.held.pending tx) → Guards c (committed c.held tx).live (changed_keys c.held tx) refusal)
    (missing : get c.held.pending tx ≡ None → refusal ≡ None) where
  pub commit_comes : Comes c (Commit tx) refusal
  commit_comes = record {
    to = λ I types os manifest templates W. by I os manifest templates (with_core W c.held (job_of c.job)) refl (get c.held.pending tx) refl;
  } where
    by : (I : Image) → c.image.model.os ≡ I.os → c.image.manifest ≡ I.manifest → HoldsTemplates I c.image.templates → (X : World) → X.held ≡ c.held
        → (o : Pends) → get c.held.pending tx ≡ o
        → guarded_next I X (changed_keys X.held tx) (commit_next X tx o) ≡ refused_or X (commit_next X tx o) refusal
    by I os manifest templates X same None is =
        guarded_not I X (changed_keys X.held tx) (commit_next X tx None) refl ∙ sym (ap (refused_or X (commit_next X tx None)) (missing is))
    by I os manifest templates X same (Some p) is =
        let guards : Guards c (committed c.held tx).live (changed_keys c.held tx) refusal = there (ap is_some is) in
        ap (λ (h : Held). guarded_next I X (changed_keys h tx) (commit_next X tx (Some p))) same
        ∙ guarded_as I X (changed_keys c.held tx) (commit_next X tx (Some p)) (committed c.held tx).live refusal refl
        (ap (λ (h : Held). (committed h tx).live) same) (guards.by_image I os manifest templates)

  pub both_comes : Comes c (CommitAndApply tx) refusal
  both_comes = record {
    to = λ I types os manifest templates W. by I os manifest templates (with_core W c.held (job_of c.job)) refl (get c.held.pending tx) refl;
  } where
    by : (I : Image) → c.image.model.os ≡ I.os → c.image.manifest ≡ I.manifest → HoldsTemplates I c.image.templates → (X : World) → X.held ≡ c.held
        → (o : Pends) → get c.held.pending tx ≡ o
        → guarded_next I X (changed_keys X.held tx) (commit_and_apply_next I X tx o) ≡ refused_or X (commit_and_apply_next I X tx o) refusal
    by I os manifest templates X same None is =
        guarded_not I X (changed_keys X.held tx) (commit_and_apply_next I X tx None) refl
        ∙ sym (ap (refused_or X (commit_and_apply_next I X tx None)) (missing is))
    by I os manifest templates X same (Some p) is =
        let guards : Guards c (committed c.held tx).live (changed_keys c.held tx) refusal = there (ap is_some is) in
        ap (λ (h : Held). guarded_next I X (changed_keys h tx) (commit_and_apply_next I X tx (Some p))) same
        ∙ guarded_as I X (changed_keys c.held tx) (commit_and_apply_next I X tx (Some p)) (committed c.held tx).live refusal refl
        (ap (λ (h : Held). (committed h tx).live) same) (guards.by_image I os manifest templates)

-- ---- pairs that are set at once

module _ (c : Core) (pairs : List (Key × Pending)) where
  pub set_comes : first_wanted c.image.model.types pairs ≡ None → (refusal : Option Refusal)
      → Guards c (set_at_once c.held pairs).live (changed_in c.held (last_of pairs)) refusal → Comes c (Set pairs) refusal
  set_comes none refusal guards = record {
    to = λ I types os manifest templates W.
        let X : World = with_core W c.held (job_of c.job) in
        by I X (first_wanted I.types pairs) (ap (λ (t : List Row). first_wanted t pairs) (sym types) ∙ none) (guards.by_image I os manifest templates);
  } where
    by : (I : Image) (X : World) (o : Option Wanted) → o ≡ None
        → refusal ≡ option_map (λ r. NotRendered r.0 r.1)
        (first_refusing I (set_at_once X.held pairs).live (files_of I.manifest (owed.Keys (changed_in X.held (last_of pairs)))))
        → guarded_next I X (changed_in X.held (last_of pairs)) (set_next I X pairs o) ≡ refused_or X (set_next I X pairs o) refusal
    by I X None none' is = guarded_as I X (changed_in X.held (last_of pairs)) (set_next I X pairs None) (set_at_once X.held pairs).live refusal refl refl is
    by I X (Some w) none' is = absurd (cc none')
