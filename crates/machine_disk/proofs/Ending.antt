-- The last turn of a job: after the sync, what is owed becomes what was noted.
use Rattle.std.proofs.Common.{◌≡◌, ⊎_elim, ℕ, Bool, true, false, ◌||◌, List, [], ◌∷◌, Ok, Err, refl, sym, ◌∙◌, ap, subst}
use Rattle.outside.specs.Names.{Names}
use Rattle.outside.specs.History.{History, IsSettled}
use Rattle.outside.specs.declared.disk_error.Failed.{Failed}
use Rattle.commit_journal.specs.Entries.{Changes}
use Rattle.commit_journal.specs.Stands.{IsReady}
use Rattle.commit_journal.specs.Change.{files_after, Commits}
use Rattle.fs_datastore.specs.Stands.{Stands}
use Rattle.settings_tree.specs.declared.entry.Owed.TheVariants as owed
use Rattle.settings_tree.specs.declared.held.Held.{Held}
use Rattle.settings_machine.specs.declared.cause.Cause.TheVariants as cause
use Rattle.settings_machine.specs.World.{Image, World, Work, Job, Running, is_running}
use Rattle.settings_machine.specs.World as machine
use Rattle.settings_machine.specs.Step.{Answer, Fine, NoRoom, OwedFault, last_turn, after_files_turn, work_turn, job_turn, turn_next}
use Rattle.settings_machine.specs.Events.{Turned, next}
use Rattle.settings_machine.specs.Paid.{IsFit, IsGood}
use Rattle.settings_machine.proofs.PaidLaws.{fit_stays}
use Rattle.machine_disk.specs.Store.{IsReadyAt}
use Rattle.machine_disk.specs.Kept.{Folder, CoreState, Kept}
use Rattle.machine_disk.specs.Ran.{Within, Ran}
use Rattle.machine_disk.proofs.Quiet.{IsAlike, ran_calm}
use Rattle.machine_disk.proofs.Changed.{IsStoreStep, ChangeMade, ChangeFailed, clear_settled, made, taken, not_taken}
use Rattle.machine_disk.proofs.Runs.{stepped}

-- The turn of a job that has nothing left to do.
last_is : (I : Image) (W : World) (w : Work) (a : Answer) → W.job ≡ Running w → w.files ≡ [] → w.commands ≡ [] → turn_next I W a ≡ last_turn I W w a
unfolding turn_next
last_is I W w a job files commands =
    ap (λ (j : Job). job_turn I W j a) job ∙ ap (λ (l : List (List ℕ)). work_turn I W l w a) files ∙ by w.commands commands
  where
    by : (l : List (List ℕ × (ℕ × List (List ℕ)))) → l ≡ [] → after_files_turn I W l w a ≡ last_turn I W w a
    by [] e = refl
    by (c ∷ cs) e = absurd (cc e)

or_true : (b : Bool) → (b || true) ≡ true
or_true true = refl
or_true false = refl

module _ (I : Image) (good : IsGood I) (folder : Folder) (W V : World) (h : History) (before : CoreState) (kept : Kept I folder W V h before)
    (calm : before.faulted ≡ false) (w : Work) (job : W.job ≡ Running w) (files : w.files ≡ []) (commands : w.commands ≡ []) where
  fit_after : (a : Answer) → IsFit I (next I W (Turned a))
  fit_after a = fit_stays I good W kept.fit (Turned a ∷ []) refl

  alike_after : (a : Answer) → IsAlike W (last_turn I W w a) → IsAlike W (next I W (Turned a))
  alike_after a = subst (IsAlike W) (sym (last_is I W w a job files commands))

  job_after : (a : Answer) → (last_turn I W w a).job ≡ (next I W (Turned a)).job
  job_after a = sym (ap (λ (N : World). N.job) (last_is I W w a job files commands))

  -- It ran out of memory for the change.
  pub ran_no_room : Ran I folder W V (Turned NoRoom ∷ []) h h before (record {
    place = before.place;
    held = before.held;
    job =
        machine.Failed cause.Memory;
    faulted = false;
  })
  ran_no_room =
      ran_calm I folder W V h before kept (Turned NoRoom) (record {
        place = before.place;
        held = before.held;
        job = machine.Failed cause.Memory;
        faulted =
            false;
      })
      (alike_after NoRoom (record { version = refl; format = refl; held = refl; etc = refl })) (fit_after NoRoom) (job_after NoRoom) refl refl calm refl refl

module _ (I : Image) (good : IsGood I) (folder : Folder) (W V : World) (old new : History) (before : CoreState) (kept : Kept I folder W V old before)
    (calm : before.faulted ≡ false) (settled : IsSettled old)
    (w : Work) (job : W.job ≡ Running w) (files : w.files ≡ []) (commands : w.commands ≡ []) (batch : Changes) (dir_is : batch.dir ≡ before.place.directory)
    (stands : Stands (files_after batch old) (record W.held { owed = owed.Keys w.since }) 2) where
  is_fit : (a : Answer) → IsFit I (next I W (Turned a))
  is_fit = fit_after I good folder W V old before kept calm w job files commands

  step : (a : Answer) (held : Held) → (last_turn I W w a).version ≡ W.version → (last_turn I W w a).format ≡ W.format → (last_turn I W w a).held ≡ held
      → (last_turn I W w a).etc ≡ W.etc → IsStoreStep I W (next I W (Turned a)) held old
  step a held version format held_is etc = subst (λ (N : World). IsStoreStep I W N held old) (sym (last_is I W w a job files commands))
      (record {
        version = version;
        format = format;
        held_is = held_is;
        etc = etc;
        clear =
            clear_settled I folder W V (last_turn I W w a) old kept.disk settled;
      })

  is_ready : IsReady batch.dir old
  is_ready = let r : IsReadyAt before.place before.held old = kept.core.ready calm in subst (λ (d : Names). IsReady d old) (sym dir_is) r.ready

  last_format : (a : Answer) → (last_turn I W w a).format ≡ W.format → (next I W (Turned a)).format ≡ 2
  last_format a same = ap (λ (N : World). N.format) (last_is I W w a job files commands) ∙ same ∙ kept.format

  -- After Ok the turn went well.
  pub ran_done : (status : ℕ) → Commits {E = Failed} batch (Ok tt) old new
      → Ran I folder W V (Turned (Fine status) ∷ []) old new before (record {
        place = before.place;
        held = record W.held { owed = owed.Keys w.since };
        job =
            (next I W (Turned (Fine status))).job;
        faulted = false;
      })
  ran_done status commits =
      let m : ChangeMade I folder W V (Turned (Fine status)) before.place (record W.held { owed = owed.Keys w.since }) old new =
      made I folder W V old new kept.disk before.place before.held (kept.core.ready calm) batch dir_is (record W.held { owed = owed.Keys w.since }) stands
      (Turned (Fine status))
      (step (Fine status) (record W.held { owed = owed.Keys w.since }) refl refl refl refl) (commits.done is_ready) (commits.any_moment is_ready) commits.others
      in
      stepped I folder W V (Turned (Fine status)) old new before _ kept.disk (record {
        other = next I W (Turned (Fine status));
        late = Within (Turned (Fine status) ∷ []) [] refl refl refl;
        kept = record {
          fit = is_fit (Fine status);
          format = last_format (Fine status) refl;
          disk = m.disk;
          core = record { job = refl; ready = λ _. m.ready; still = λ faulted. absurd (cc faulted) };
        };
        flag = sym (ap (λ b. b || false) calm);
        moments = m.moments;
        touches = m.touches;
      })

  stopped : (stored : Bool) → is_running (next I W (Turned (OwedFault stored))).job ≡ false
  stopped stored = ap (λ (N : World). is_running N.job) (last_is I W w (OwedFault stored) job files commands)

  failed_ran : (stored : Bool) (held : Held) → ChangeFailed I folder W V (Turned (OwedFault stored)) old new
      → Ran I folder W V (Turned (OwedFault stored) ∷ []) old new before (record {
        place = before.place;
        held = held;
        job =
            (next I W (Turned (OwedFault stored))).job;
        faulted = true;
      })
  failed_ran stored held failed =
      stepped I folder W V (Turned (OwedFault stored)) old new before _ kept.disk (record {
        other = W;
        late = Within [] (Turned (OwedFault stored) ∷ []) refl refl refl;
        kept = record {
          fit = is_fit (OwedFault stored);
          format = last_format (OwedFault stored) refl;
          disk = failed.disk;
          core = record { job = refl; ready = λ calm'. absurd (cc calm'); still = λ _. stopped stored };
        };
        flag = sym (or_true before.faulted);
        moments = failed.moments;
        touches = failed.touches;
      })

  -- After an error owed was stored or not.
  pub ran_not_done : (fault : Failed) (held : Held) → Commits batch (Err fault) old new
      → (stored : Bool) × Ran I folder W V (Turned (OwedFault stored) ∷ []) old new before
      (record { place = before.place; held = held; job = (next I W (Turned (OwedFault stored))).job; faulted = true })
  ran_not_done fault held commits = ⊎_elim
      (λ there. (
        true,
        failed_ran true held (taken I folder W V old new kept.disk before.place before.held (kept.core.ready calm) batch dir_is
            (record W.held { owed = owed.Keys w.since }) stands (Turned (OwedFault true))
            (step (OwedFault true) (record W.held { owed = owed.Keys w.since }) refl refl refl refl) there (commits.any_moment is_ready) commits.others),
      ))
      (λ not_begun. (
        false,
        failed_ran false held (not_taken I folder W V old new kept.disk before.place before.held (kept.core.ready calm) batch dir_is
            (record W.held { owed = owed.Keys w.since }) stands (Turned (OwedFault false))
            (step (OwedFault false) W.held refl refl refl refl) not_begun commits.others),
      ))
      (commits.failed is_ready)
