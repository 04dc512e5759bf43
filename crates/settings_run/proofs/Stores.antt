-- What a dump, a restore and the forgetting of keys come to, where a store is there.
use Rattle.std.proofs.Common.{◌≡◌, ◌≢◌, inl, inr, ⊎_elim, ◌++◌, false, List, [], ◌∷◌, Option, Result, Ok, Err, OnOk, refl, sym, ◌∙◌, ap, subst}
use Rattle.outside.specs.History.{History}
use Rattle.outside.specs.Names.{Names}
use Rattle.outside.specs.Told.{Moves}
use Rattle.outside.proofs.Since.{since_map}
use Rattle.outside.proofs.Told.{moves_same, moves_map}
use Rattle.held_text.specs.Dump.{dump_text}
use Rattle.settings_tree.specs.declared.held.Held.{Held}
use Rattle.settings_machine.specs.World.{Key, Image, World, is_running}
use Rattle.settings_machine.specs.Events.{Event, faulted_after}
use Rattle.settings_machine.specs.Paid.{IsGood}
use Rattle.machine_disk.specs.Kept.{Folder}
use Rattle.version_links.specs.declared.version.Version.{Version}
use Rattle.store_open.specs.Forgetting.{Forgets}
use Rattle.store_open.specs.declared.stored.Stored.{Stored}
use Rattle.store_open.specs.declared.open_error.OpenError.{OpenError}
use Rattle.store_open.specs.declared.open_error.OpenError.TheVariants as unopened
use Rattle.store_open.specs.declared.forget_error.ForgetError.{ForgetError}
use Rattle.store_open.specs.declared.forget_error.ForgetError.TheVariants as forget_error
use Rattle.store_events.specs.Laws.{HasStayed, HasForgot, TellsOf, forgot}
use Rattle.store_events.proofs.Readings.{readings_stay, readings_tell, readings_touch_own}
use Rattle.store_events.proofs.Forgettings.{forgettings_are_whole, forgettings_forget, forgetting_own}
use Rattle.command_outcome.specs.Ends.{Outcome}
use Rattle.command_outcome.specs.declared.refusal.Refusal.TheVariants as refused
use Rattle.command_words.specs.Orders.{dump, restore, forget}
use Rattle.core_commands.specs.Handing.{not_opened}
use Rattle.settings_cmd.specs.Carried.{Carried}
use Rattle.settings_cmd.specs.Stores.{IsDumped, AnswersDump, IsRestored, MadeDump, RestoresMade, IsForgotten, AnswersForgetting}
use Rattle.settings_cmd.specs.Does.{Devices}
use Rattle.settings_run.specs.Laws.{Begins}
use Rattle.settings_run.specs.Events.{DumpEvents, ForgetEvents}
use Rattle.settings_run.specs.Headline.{RunsOver, RunsOverAll}
use Rattle.settings_run.specs.Touched.{StaysElsewhere}
use Rattle.settings_run.proofs.Answered.{run_of, stays, untouched}
use Rattle.settings_run.proofs.Commands.{unmoved}
use Rattle.settings_run.proofs.PaidFiles.{leaves_files}
use Rattle.settings_run.proofs.Touched.{own_elsewhere}

-- ---- what was read

-- What is printed of what was read is the world's dump.
dumped : (W : World) (result : Result Stored OpenError) (outcome : Outcome) → AnswersDump result outcome → TellsOf W result → DumpEvents W outcome []
dumped W (Ok stored) outcome (inl told) tells = subst (λ (o : Outcome). DumpEvents W o []) (sym told) (
  ap (λ (v : Version). dump_text v stored.held ++ 10 ∷ []) tells.0 ∙ ap (λ (h : Held). dump_text W.version h ++ 10 ∷ []) tells.1,
  refl,
)
dumped W (Ok stored) outcome (inr told) tells = subst (λ (o : Outcome). DumpEvents W o []) (sym told) refl
dumped W (Err e) outcome told tells = subst (λ (o : Outcome). DumpEvents W o []) (sym told) refl

-- A store that was not read is no event.
unread : (W : World) (keys : List Key) (e : OpenError) → ForgetEvents W keys (Err (not_opened e)) []
unread W keys unopened.NoStore = refl
unread W keys (unopened.BadLink path) = refl
unread W keys (unopened.BadJournal path) = refl
unread W keys (unopened.Damaged path) = refl
unread W keys (unopened.OldFormat directory) = refl
unread W keys (unopened.BadImage file kind at) = refl
unread W keys (unopened.IllTyped key) = refl
unread W keys unopened.Failed = refl
unread W keys unopened.Memory = refl

module _ (b n : Devices) (outcome : Outcome) (no_runs : n.runs ≡ b.runs) where
  pub dumps : (d d' : Option History) → Carried IsDumped outcome d d' → Moves d d' (RunsOverAll dump b n outcome)
  dumps d d' (inl is) = moves_map (λ old new reads I good folder image W at.
      inl (stays dump I good folder W b n outcome old new at
      (dumped W is.result outcome is.answers (readings_tell I folder W is.result old new at.disk reads)) no_runs
      (readings_stay I good folder W is.result old new at.disk reads)
      (own_elsewhere dump I [] old new (λ directory path may. may) (readings_touch_own I is.result old new reads)))) is.reads
  dumps d d' (inr none) = unmoved b n outcome dump d d' none.1 no_runs
      (λ I folder W h. subst (λ (o : Outcome). DumpEvents W o []) (sym none.0) refl)

  -- ---- restore

  -- Where a store is there, nothing is done.
  pub restores : (path : Names) (d d' : Option History) → Carried (IsRestored path) outcome d d' → Moves d d' (RunsOverAll (restore path) b n outcome)
  restores path d d' (inr none) = unmoved b n outcome (restore path) d d' none.1 no_runs (λ I folder W h. refl)
  restores path d d' (inl is) = by is.made is.follows where
    by : (made : MadeDump) → RestoresMade made outcome d d' → Moves d d' (RunsOverAll (restore path) b n outcome)
    by (Ok made) begins = moves_map (λ old new was I good folder image W at.
        let same : new ≡ old = was.still W.version at.disk.store.directory at.disk.store.resolves in
        subst (λ (h : History). RunsOver (restore path) I folder W b n outcome old h) (sym same)
        (inl (untouched (restore path) I good folder W b n outcome old at refl no_runs))) begins.begins
    by (Err refusal) none = unmoved b n outcome (restore path) d d' none.1 no_runs (λ I folder W h. refl)

  -- ---- forget

  module _ (keys : List Key) where
    module _ (I : Image) (good : IsGood I) (folder : Folder) (W : World) (old new : History) (at : Begins I folder W old)
        (result : Result (Unit {0}) ForgetError) (forgets : Forgets keys result old new) where
      idle : is_running W.job ≡ false
      idle = ap is_running at.idle

      elsewhere : (events : List Event) → StaysElsewhere (forget keys) I events old new
      elsewhere events = own_elsewhere (forget keys) I events old new (λ directory path may. may) (forgetting_own I events keys result old new forgets)

      -- It is no event.
      stayed : ForgetEvents W keys outcome [] → HasStayed I folder W old new → RunsOver (forget keys) I folder W b n outcome old new
      stayed made has = inl (stays (forget keys) I good folder W b n outcome old new at made no_runs has (elsewhere []))

      -- The disk failed it.
      failed : outcome ≡ Err refused.Disk → RunsOver (forget keys) I folder W b n outcome old new
      failed told = inr (record {
        at_once = refl;
        outcome_is = told;
        any_moment = since_map _ _ old new (λ c either. ⊎_elim
            (λ was. inl (leaves_files I W [] c was))
            (λ is. inr (forgot keys, refl, leaves_files I W (forgot keys) c is)) either)
            (forgettings_are_whole I good folder W keys result old new idle at.disk forgets);
        no_runs = no_runs;
        elsewhere = elsewhere [];
      })

      -- It is the event.
      done : HasForgot I folder W keys (Ok tt) old new → AnswersForgetting keys (Ok tt) outcome → RunsOver (forget keys) I folder W b n outcome old new
      done has told = inl (run_of (forget keys) I good folder W b n outcome old new at (forgot keys)
          (subst (λ (o : Outcome). ForgetEvents W keys o (forgot keys)) (sym told) (refl, has.0, refl)) has.1 (moves_same no_runs (λ s was. was))
          (elsewhere (forgot keys))
          (λ all. subst (λ (o : Outcome). OnOk o (faulted_after false (forgot keys) ≡ false)) (sym told) refl))

      -- The store was not read, or memory ran out.
      unmade : (e : OpenError) → e ≢ unopened.Failed → HasForgot I folder W keys (Err (forget_error.Store e)) old new → outcome ≡ Err (not_opened e)
          → RunsOver (forget keys) I folder W b n outcome old new
      unmade e other has told = stayed (subst (λ (o : Outcome). ForgetEvents W keys o []) (sym told) (unread W keys e)) (has.1 other)

    module _ (I : Image) (good : IsGood I) (folder : Folder) (W : World) (old new : History) (at : Begins I folder W old) where
      by : (result : Result (Unit {0}) ForgetError) → Forgets keys result old new → HasForgot I folder W keys result old new
          → AnswersForgetting keys result outcome → RunsOver (forget keys) I folder W b n outcome old new
      by (Ok tt) forgets has told = done I good folder W old new at (Ok tt) forgets has told
      by (Err (forget_error.NotHeld key)) forgets has told = stayed I good folder W old new at (Err (forget_error.NotHeld key)) forgets
          (subst (λ (o : Outcome). ForgetEvents W keys o []) (sym told) (has.0, refl)) has.1
      by (Err (forget_error.Store unopened.Failed)) forgets has told = failed I good folder W old new at (Err (forget_error.Store unopened.Failed)) forgets told
      by (Err (forget_error.Store unopened.NoStore)) forgets has told =
          unmade I good folder W old new at _ forgets unopened.NoStore (λ is. cc is) has told
      by (Err (forget_error.Store (unopened.BadLink path))) forgets has told =
          unmade I good folder W old new at _ forgets (unopened.BadLink path) (λ is. cc is) has told
      by (Err (forget_error.Store (unopened.BadJournal path))) forgets has told =
          unmade I good folder W old new at _ forgets (unopened.BadJournal path) (λ is. cc is) has told
      by (Err (forget_error.Store (unopened.Damaged path))) forgets has told =
          unmade I good folder W old new at _ forgets (unopened.Damaged path) (λ is. cc is) has told
      by (Err (forget_error.Store (unopened.OldFormat directory))) forgets has told =
          unmade I good folder W old new at _ forgets (unopened.OldFormat directory) (λ is. cc is) has told
      by (Err (forget_error.Store (unopened.BadImage file kind place))) forgets has told =
          unmade I good folder W old new at _ forgets (unopened.BadImage file kind place) (λ is. cc is) has told
      by (Err (forget_error.Store (unopened.IllTyped key))) forgets has told =
          unmade I good folder W old new at _ forgets (unopened.IllTyped key) (λ is. cc is) has told
      by (Err (forget_error.Store unopened.Memory)) forgets has told =
          unmade I good folder W old new at _ forgets unopened.Memory (λ is. cc is) has told

    pub forgets : (d d' : Option History) → Carried (IsForgotten keys) outcome d d' → Moves d d' (RunsOverAll (forget keys) b n outcome)
    forgets d d' (inl is) = moves_map (λ old new f I good folder image W at. by I good folder W old new at is.result f
        (forgettings_forget I good folder W keys is.result old new (ap is_running at.idle) at.disk f) is.answers) is.forgets
    forgets d d' (inr none) = unmoved b n outcome (forget keys) d d' none.1 no_runs
        (λ I folder W h. subst (λ (o : Outcome). ForgetEvents W keys o []) (sym none.0) refl)
