-- An effect that is committed is one event of the machine.
use Rattle.std.proofs.Common.{◌≡◌, inl, inr, true, false, List, [], ◌∷◌, Result, Ok, Err, refl, sym, ◌∙◌, ap, subst}
use Rattle.outside.specs.Names.{Names}
use Rattle.outside.specs.History.{History, tree_of}
use Rattle.outside.specs.declared.disk_error.DiskErr.{DiskErr}
use Rattle.outside.specs.declared.disk_error.DiskErr.TheVariants as disk
use Rattle.outside.specs.declared.disk_error.Failed.{Failed}
use Rattle.commit_journal.specs.Entries.{Changes}
use Rattle.commit_journal.specs.Files.{files_below}
use Rattle.commit_journal.specs.Change as journal
use Rattle.commit_journal.specs.Change.{files_before, files_after}
use Rattle.fs_datastore.specs.Batches.{Follows}
use Rattle.fs_datastore.specs.Stands.{Stands}
use Rattle.settings_tree.specs.Laid.{laid}
use Rattle.settings_tree.specs.declared.entry.Entry.{Entry}
use Rattle.settings_tree.specs.declared.held.Held.{Held}
use Rattle.settings_machine.specs.declared.cause.Cause.TheVariants as cause
use Rattle.settings_machine.specs.World.{Image, World, Job}
use Rattle.settings_machine.specs.Requests.{Request}
use Rattle.settings_machine.specs.Step.{Answered, WithoutMemory, Faulted, failing, answered, request_next}
use Rattle.settings_machine.specs.Events.{Asked, next}
use Rattle.settings_machine.specs.Paid.{IsFit, IsGood}
use Rattle.settings_machine.proofs.Answering.{Keeps, answered_keeps}
use Rattle.settings_machine.proofs.PaidLaws.{fit_stays}
use Rattle.machine_disk.specs.Store.{IsReadyAt}
use Rattle.machine_disk.specs.Kept.{Folder, CoreState, Kept}
use Rattle.machine_disk.specs.Ran.{Ran}
use Rattle.machine_disk.proofs.Meanings.{core_holds, core_version}
use Rattle.machine_disk.proofs.Handling.{ran_answered, ran_faulted}
use Rattle.machine_disk.proofs.Quiet.{IsAlike, ran_calm}
use Rattle.store_open.specs.Laws.{HoldsImage}
use Rattle.affected_apply.specs.Jobs.{job_of}
use Rattle.affected_apply.specs.declared.job_state.JobState.{JobState}
use Rattle.machine_answers.specs.Replies.{reply_of}
use Rattle.machine_answers.specs.declared.answer.Answer.{Answer}
use Rattle.api_core.specs.Carried.{IsQuiet, IsWritten, IsBroken, IsUndone, Carries}
use Rattle.api_core.specs.Cores.{core_state, IsEvent, Commits}
use Rattle.api_core.specs.Jobs.{job_after}
use Rattle.api_core.specs.Plans.{MayCommit, with_core, IsPlanned, Plans, Replies}
use Rattle.api_core.specs.declared.planned.Effect.{Effect}
use Rattle.api_core.specs.declared.serving.Core.{Core}

module _ (I : Image) (folder : Folder) (W V : World) (old : History) (before : CoreState) (kept : Kept I folder W V old before)
    (calm : before.faulted ≡ false) where
  held_is : W.held ≡ before.held
  held_is = core_holds I folder W V old before kept calm

  same_world : with_core W before.held before.job ≡ W
  same_world = ap (λ (h : Held). with_core W h before.job) (sym held_is) ∙ ap (λ (j : Job). with_core W W.held j) kept.core.job

  replied_at_core : (q : Request) (answer : Answer) (effect : Effect) → IsPlanned I before.place.version before.held before.job q answer effect
      → (answered I W q).reply ≡ reply_of answer
  replied_at_core q answer effect planned = ap (λ (X : World). (answered I X q).reply) (sym same_world)
      ∙ planned.replies W (core_version I folder W V old before kept calm)

module _ (I : Image) (good : IsGood I) (folder : Folder) (W V : World) (old : History) (before : CoreState) (kept : Kept I folder W V old before)
    (calm : before.faulted ≡ false) where
  held : W.held ≡ before.held
  held = held_is I folder W V old before kept calm

  world : with_core W before.held before.job ≡ W
  world = same_world I folder W V old before kept calm

  module _ (q : Request) (answer : Answer) (effect : Effect) (planned : IsPlanned I before.place.version before.held before.job q answer effect) where
    held_at : laid before.held effect.change ≡ (answered I W q).world.held
    held_at = planned.held_is W (core_version I folder W V old before kept calm) ∙ ap (λ (X : World). (answered I X q).world.held) world

    job_at : job_after effect.next before.job ≡ (answered I W q).world.job
    job_at = planned.job_is W (core_version I folder W V old before kept calm) ∙ ap (λ (X : World). (answered I X q).world.job) world

    fit_after : IsFit I (next I W (Asked q Answered))
    fit_after = fit_stays I good W kept.fit (Asked q Answered ∷ []) refl

    quiet_event : (now : CoreState) → effect.change ≡ [] → now ≡ record before { job = job_after effect.next before.job }
        → IsEvent I folder W V q (Ok tt) old old before now
    unfolding request_next
    quiet_event now empty is = record {
      outcome = Answered;
      is = refl;
      ran = subst (Ran I folder W V (Asked q Answered ∷ []) old old before) (sym is)
          (ran_calm I folder W V old before kept (Asked q Answered) (record before { job = job_after effect.next before.job }) alike fit_after job_at refl refl
          calm calm refl);
    } where
      keeps : Keeps I W (answered I W q).world
      keeps = answered_keeps I W q

      same_held : (answered I W q).world.held ≡ W.held
      same_held = sym held_at ∙ ap (λ (es : List Entry). laid before.held es) empty ∙ sym held

      alike : IsAlike W (next I W (Asked q Answered))
      alike = record { version = keeps.version; format = keeps.format; held = same_held; etc = keeps.etc }

    module _ (may : (batch : Changes) → batch.dir ≡ before.place.directory → Follows effect.change batch.entries
        → Stands (files_after batch old) (laid before.held effect.change) 2) where
      stands : (batch : Changes) → batch.dir ≡ before.place.directory → Follows effect.change batch.entries
          → Stands (files_after batch old) (answered I W q).world.held 2
      stands batch dir follows = subst (λ (h : Held). Stands (files_after batch old) h 2) held_at (may batch dir follows)

      written_event : (new : History) (now : CoreState) (batch : Changes) → batch.dir ≡ before.place.directory → Follows effect.change batch.entries
          → journal.Commits {E = Failed} batch (Ok tt) old new → now ≡
          record before { held = laid before.held effect.change; job = job_after effect.next before.job; faulted = false }
          → IsEvent I folder W V q (Ok tt) old new before now
      unfolding request_next
      written_event new now batch dir follows commits is = record {
        outcome = Answered;
        is = refl;
        ran = subst (Ran I folder W V (Asked q Answered ∷ []) old new before)
            (ap (λ (h : Held). let s : CoreState = record before { held = h; job = (answered I W q).world.job; faulted = false } in s) (sym held_at)
            ∙ ap (λ (j : Job). let s : CoreState = record before { held = laid before.held effect.change; job = j; faulted = false } in s) (sym job_at)
            ∙ sym is)
            (ran_answered I good folder W V old new before kept calm q batch dir (stands batch dir follows) commits);
      }

      broken_event : (new : History) (now : CoreState) (batch : Changes) (fault : Failed) → batch.dir ≡ before.place.directory
          → Follows effect.change batch.entries
          → journal.Commits batch (Err fault) old new → now ≡ record before {
            held = laid before.held effect.change;
            job =
                failing before.job cause.Disk;
            faulted = true;
          }
          → IsEvent I folder W V q (Err disk.Failed) old new before now
      unfolding request_next
      broken_event new now batch fault dir follows commits is =
          let f = ran_faulted I good folder W V old new before kept calm q batch dir (stands batch dir follows) fault (laid before.held effect.change) commits
          in record {
            outcome = Faulted f.0;
            is = (f.0, refl);
            ran = subst (Ran I folder W V (Asked q (Faulted f.0) ∷ []) old new before)
                (ap (λ (j : Job). let s : CoreState = record before { held = laid before.held effect.change; job = failing j cause.Disk; faulted = true } in s)
                (sym kept.core.job) ∙ sym is)
                f.1;
          }

  pub undone_event : (q : Request) (now : CoreState) → now ≡ before → IsEvent I folder W V q (Err disk.Memory) old old before now
  unfolding request_next
  undone_event q now is = record {
    outcome = WithoutMemory;
    is = refl;
    ran = subst (Ran I folder W V (Asked q WithoutMemory ∷ []) old old before) (sym is)
        (ran_calm I folder W V old before kept (Asked q WithoutMemory) before (record { version = refl; format = refl; held = refl; etc = refl }) kept.fit
        kept.core.job refl refl calm calm refl);
  }

module _ (c : Core) (q : Request) (calm : c.faulted ≡ false) where
  -- It ran out of memory, and nothing happened.
  pub commits_undone : (now : Core) (old new : History) → IsUndone (core_state c) (core_state now) old new → Commits c q (Err disk.Memory) now old new
  commits_undone now old new undone = record {
    event = λ I good image folder W V kept.
        subst (λ (h : History). IsEvent I folder W V q (Err disk.Memory) old h (core_state c) (core_state now)) (sym undone.disk)
        (undone_event I good folder W V old (core_state c) kept calm q (core_state now) undone.core);
  }

  module _ (answer : Answer) (effect : Effect) (planned : Plans c q answer effect) (may : MayCommit c effect) where
    by_image : (I : Image) → HoldsImage I c.image → IsPlanned I c.place.version c.held (job_of c.job) q answer effect
    by_image I image = planned.by_image I image.types_are image.os_is image.manifest_is image.templates_are

    may_follow : (I : Image) (folder : Folder) (W V : World) (old : History) → Kept I folder W V old (core_state c)
        → (batch : Changes) → batch.dir ≡ c.place.directory → Follows effect.change batch.entries → Stands (files_after batch old) (laid c.held effect.change) 2
    may_follow I folder W V old kept batch dir follows =
        let r : IsReadyAt c.place c.held old = kept.core.ready calm in
        follows.stands (files_before batch old) c.held 2 (subst (λ (d : Names). Stands (files_below d (tree_of old)) c.held 2) (sym dir) r.stands)
        may.lay.rule may.lay.weak may.lay.told

    commits_quiet : (now : Core) (old new : History) → IsQuiet (core_state c) effect (core_state now) old new → Commits c q (Ok tt) now old new
    commits_quiet now old new quiet = record {
      event = λ I good image folder W V kept.
          subst (λ (h : History). IsEvent I folder W V q (Ok tt) old h (core_state c) (core_state now)) (sym quiet.disk)
          (quiet_event I good folder W V old (core_state c) kept calm q answer effect (by_image I image) (core_state now) quiet.empty quiet.core);
    }

    commits_written : (now : Core) (old new : History) → IsWritten (core_state c) effect (core_state now) old new → Commits c q (Ok tt) now old new
    commits_written now old new w = record {
      event = λ I good image folder W V kept.
          written_event I good folder W V old (core_state c) kept calm q answer effect (by_image I image) (may_follow I folder W V old kept) new
          (core_state now)
          w.batch w.dir w.follows w.commits w.core;
    }

    commits_broken : (now : Core) (old new : History) → IsBroken (core_state c) effect (core_state now) old new → Commits c q (Err disk.Failed) now old new
    commits_broken now old new b = record {
      event = λ I good image folder W V kept.
          broken_event I good folder W V old (core_state c) kept calm q answer effect (by_image I image) (may_follow I folder W V old kept) new (core_state now)
          b.batch b.fault b.dir b.follows b.commits b.core;
    }

    pub commits_carried : (result : Result Unit DiskErr) (now : Core) (old new : History) → Carries (core_state c) effect result (core_state now) old new
        → Commits c q result now old new
    commits_carried (Ok done) now old new (inl quiet) = commits_quiet now old new quiet
    commits_carried (Ok done) now old new (inr w) = commits_written now old new w
    commits_carried (Err disk.Failed) now old new b = commits_broken now old new b
    commits_carried (Err disk.Memory) now old new undone = commits_undone now old new undone

-- A job that got room is the same to the machine.
pub with_job : (c : Core) (job : JobState) → job_of job ≡ job_of c.job → core_state (record c { job = job }) ≡ core_state c
with_job c job same = ap (λ (j : Job). let s : CoreState = record { place = c.place; held = c.held; job = j; faulted = c.faulted } in s) same

-- A planned answer is what the machine replies.
pub replies_planned : (c : Core) (q : Request) (answer : Answer) (effect : Effect) → Plans c q answer effect → Replies c q answer
replies_planned c q answer effect planned = record {
  by_image = λ I image folder W V h kept calm.
      replied_at_core I folder W V h (core_state c) kept calm q answer effect
      (planned.by_image I image.types_are image.os_is image.manifest_is image.templates_are);
}
