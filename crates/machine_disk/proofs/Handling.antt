-- A request that is answered, or at which a call of the disk failed.
use Rattle.std.proofs.Common.{◌≡◌, ⊎_elim, Bool, true, false, [], ◌∷◌, Ok, Err, refl, sym, ◌∙◌, subst}
use Rattle.outside.specs.Names.{Names}
use Rattle.outside.specs.History.{History}
use Rattle.commit_journal.specs.Entries.{Changes}
use Rattle.commit_journal.specs.Stands.{IsReady}
use Rattle.commit_journal.specs.Change.{files_after, Commits}
use Rattle.fs_datastore.specs.Stands.{Stands}
use Rattle.settings_tree.specs.declared.held.Held.{Held}
use Rattle.settings_machine.specs.declared.cause.Cause.TheVariants as cause
use Rattle.settings_machine.specs.World.{Image, World, Job, Idle, Running, is_running}
use Rattle.settings_machine.specs.World as job
use Rattle.outside.specs.declared.disk_error.Failed.{Failed}
use Rattle.settings_machine.specs.Requests.{Request}
use Rattle.settings_machine.specs.Step.{Answered, Faulted, failing, answered, request_next}
use Rattle.settings_machine.specs.Events.{Asked, next, acknowledges}
use Rattle.settings_machine.specs.Paid.{IsFit, IsGood}
use Rattle.settings_machine.proofs.Answering.{Keeps, answered_keeps, request_keeps}
use Rattle.settings_machine.proofs.Sequences.{or_false}
use Rattle.settings_machine.proofs.PaidLaws.{fit_stays}
use Rattle.machine_disk.specs.Store.{IsReadyAt}
use Rattle.machine_disk.specs.Kept.{Folder, CoreState, Kept}
use Rattle.machine_disk.specs.Ran.{Within, Ran}
use Rattle.machine_disk.proofs.Changed.{IsStoreStep, ChangeMade, ChangeFailed, clear_more, made, taken, not_taken}
use Rattle.machine_disk.proofs.Runs.{stepped}

module _ (I : Image) (good : IsGood I) (folder : Folder) (W V : World) (old new : History) (before : CoreState) (kept : Kept I folder W V old before)
    (calm : before.faulted ≡ false)
    (q : Request) (batch : Changes) (dir_is : batch.dir ≡ before.place.directory) (stands : Stands (files_after batch old) (answered I W q).world.held 2) where
  answered_fit : IsFit I (next I W (Asked q Answered))
  answered_fit = fit_stays I good W kept.fit (Asked q Answered ∷ []) refl

  faulted_fit : (taken : Bool) → IsFit I (next I W (Asked q (Faulted taken)))
  faulted_fit taken = fit_stays I good W kept.fit (Asked q (Faulted taken) ∷ []) refl

  answered_step : IsStoreStep I W (next I W (Asked q Answered)) (answered I W q).world.held old
  unfolding request_next
  answered_step =
      let k : Keeps I W (answered I W q).world = answered_keeps I W q in
      record { version = k.version; format = k.format; held_is = refl; etc = k.etc; clear = clear_more I folder W V (answered I W q).world old kept.disk k.due }

  taken_step : IsStoreStep I W (next I W (Asked q (Faulted true))) (answered I W q).world.held old
  unfolding request_next
  taken_step =
      let k : Keeps I W (next I W (Asked q (Faulted true))) = request_keeps I W q (Faulted true) in
      record {
        version = refl;
        format = refl;
        held_is = refl;
        etc = refl;
        clear =
            clear_more I folder W V (next I W (Asked q (Faulted true))) old kept.disk k.due;
      }

  untaken_step : IsStoreStep I W (next I W (Asked q (Faulted false))) W.held old
  unfolding request_next
  untaken_step =
      let k : Keeps I W (next I W (Asked q (Faulted false))) = request_keeps I W q (Faulted false) in
      record {
        version = refl;
        format = refl;
        held_is = refl;
        etc = refl;
        clear =
            clear_more I folder W V (next I W (Asked q (Faulted false))) old kept.disk k.due;
      }

  is_ready : IsReady batch.dir old
  is_ready = let r : IsReadyAt before.place before.held old = kept.core.ready calm in subst (λ (d : Names). IsReady d old) (sym dir_is) r.ready

  unsaid : (taken : Bool) → acknowledges I W (Asked q (Faulted taken)) ≡ false
  unfolding request_next
  unsaid taken = refl

  stopped : (taken : Bool) → is_running (next I W (Asked q (Faulted taken))).job ≡ false
  unfolding request_next
  stopped taken = by W.job where
    by : (j : Job) → is_running (failing j cause.Disk) ≡ false
    by Idle = refl
    by (job.Failed c) = refl
    by (Running w) = refl

  -- What the core is after the request was answered.
  abbrev pub core_answered : CoreState
  core_answered = record { place = before.place; held = (answered I W q).world.held; job = (next I W (Asked q Answered)).job; faulted = false }

  -- After Ok the request was answered.
  pub ran_answered : Commits {E = Failed} batch (Ok tt) old new → Ran I folder W V (Asked q Answered ∷ []) old new before core_answered
  ran_answered commits =
      let m : ChangeMade I folder W V (Asked q Answered) before.place (answered I W q).world.held old new =
      made I folder W V old new kept.disk before.place before.held (kept.core.ready calm) batch dir_is (answered I W q).world.held stands (Asked q Answered)
      answered_step
      (commits.done is_ready) (commits.any_moment is_ready) commits.others in
      stepped I folder W V (Asked q Answered) old new before core_answered kept.disk (record {
        other = next I W (Asked q Answered);
        late = Within (Asked q Answered ∷ []) [] refl refl refl;
        kept = record {
          fit = answered_fit;
          format = answered_step.format ∙ kept.format;
          disk = m.disk;
          core = record { job = refl; ready = λ _. m.ready; still = λ faulted. absurd (cc faulted) };
        };
        flag = sym calm;
        moments = m.moments;
        touches = m.touches;
      })

  faulted_format : (taken : Bool) → (next I W (Asked q (Faulted taken))).format ≡ 2
  faulted_format taken = let k : Keeps I W (next I W (Asked q (Faulted taken))) = request_keeps I W q (Faulted taken) in k.format ∙ kept.format

  failed_ran : (taken' : Bool) (held : Held) → ChangeFailed I folder W V (Asked q (Faulted taken')) old new
      → Ran I folder W V (Asked q (Faulted taken') ∷ []) old new before (record {
        place = before.place;
        held = held;
        job =
            (next I W (Asked q (Faulted taken'))).job;
        faulted = true;
      })
  failed_ran taken' held failed =
      stepped I folder W V (Asked q (Faulted taken')) old new before _ kept.disk (record {
        other = W;
        late = Within [] (Asked q (Faulted taken') ∷ []) refl refl (or_false _ _ (unsaid taken') refl);
        kept = record {
          fit = faulted_fit taken';
          format = faulted_format taken';
          disk = failed.disk;
          core = record { job = refl; ready = λ calm'. absurd (cc calm'); still = λ _. stopped taken' };
        };
        flag = refl;
        moments = failed.moments;
        touches = failed.touches;
      })

  -- After an error the request was taken or not; the core notes the fault, and its job is that of the machine.
  pub ran_faulted : (fault : Failed) (held : Held) → Commits batch (Err fault) old new
      → (taken' : Bool) × Ran I folder W V (Asked q (Faulted taken') ∷ []) old new before
      (record { place = before.place; held = held; job = (next I W (Asked q (Faulted taken'))).job; faulted = true })
  ran_faulted fault held commits = ⊎_elim
      (λ there. (
        true,
        failed_ran true held (taken I folder W V old new kept.disk before.place before.held (kept.core.ready calm) batch dir_is (answered I W q).world.held
            stands
            (Asked q (Faulted true)) taken_step there (commits.any_moment is_ready) commits.others),
      ))
      (λ not_begun. (
        false,
        failed_ran false held (not_taken I folder W V old new kept.disk before.place before.held (kept.core.ready calm) batch dir_is (answered I W q).world.held
            stands
            (Asked q (Faulted false)) untaken_step not_begun commits.others),
      ))
      (commits.failed is_ready)
