-- The commands are runs of the machine.
use Rattle.std.proofs.Common.{◌≡◌, inl, inr, ◌⊎◌, ⊎_elim, ℕ, Bool, true, false, List, [], ◌∷◌}
use Rattle.std.proofs.Common.{◌++◌, Option, Some, None, Result, Ok, Err, refl, sym, ◌∙◌, ap, subst}
use Rattle.std.proofs.lemmas.Bool.{or_cases}
use Rattle.outside.specs.Exchange.{Exchange}
use Rattle.outside.specs.History.{History}
use Rattle.outside.specs.Spawner.{Run}
use Rattle.outside.specs.Told.{Moves}
use Rattle.outside.proofs.Told.{moves_same}
use Rattle.settings_tree.specs.declared.held.Held.{Held}
use Rattle.settings_machine.specs.World.{Image, World, Job, Idle, is_running}
use Rattle.settings_machine.specs.Opening.{added_keys}
use Rattle.settings_machine.specs.Requests.{Request, Verify}
use Rattle.settings_machine.specs.Step.{noting, opened}
use Rattle.settings_machine.specs.Events.{Event, Opened, Asked, Succeeded, Failing, after, next, boots}
use Rattle.settings_machine.specs.Paid.{IsGood}
use Rattle.settings_machine.proofs.PaidLaws.{openings_pay, booted_paid}
use Rattle.settings_machine.proofs.Programs.{request_runs}
use Rattle.machine_disk.specs.Kept.{Folder, Kept}
use Rattle.machine_disk.specs.Ran.{Before, StayPaid, OpensTo, OpensNot, RunsBy}
use Rattle.machine_disk.proofs.Runs.{ran_none, opens_kept}
use Rattle.machine_disk.proofs.Moments.{none_moments}
use Rattle.machine_disk.proofs.Prefixes.{none_paid, one_paid, whole, runs_touch, runs_to}
use Rattle.machine_disk.proofs.Meanings.{core_holds}
use Rattle.store_open.specs.Laws.{IsImageOfFolder, HoldsImage, IsKeptAt, IsRefusal}
use Rattle.store_open.specs.Opening.{Opens}
use Rattle.store_open.specs.declared.opened.Opened as answer
use Rattle.store_open.specs.declared.open_error.OpenError.{OpenError}
use Rattle.store_open.specs.declared.open_error.OpenError.TheVariants as opening
use Rattle.store_open.proofs.MachineRuns.{openings_run, refusals_keep}
use Rattle.command_outcome.specs.Ends.{Outcome}
use Rattle.command_outcome.specs.declared.refusal.Refusal.TheVariants as refused
use Rattle.core_commands.specs.Lines.{IsSettingsLine, IsJobLine}
use Rattle.core_commands.specs.Carried.{set_requests, apply_requests, core_over, Follows, GoesOn, FollowsOpening}
use Rattle.core_commands.specs.Handing.{not_opened}
use Rattle.core_commands.specs.Verifying.{IsVerified, Verifies, VerifiesAfter}
use Rattle.settings_cmd.specs.Gets.{Answers, AnswersOpening}
use Rattle.api_server.specs.Causes.{FaultCounts}
use Rattle.api_server.specs.declared.pace.Pace.{Pace}
use Rattle.event_lines.specs.Logs.{LogState}
use Rattle.settings_cmd.specs.Serving.{served, ServesOn, Serves, FollowsOpening as FollowsServing}
use Rattle.settings_run.specs.Laws.{Begins, IsRun, IsUnopened, RequestEvents, RequestsRun, SetsRun, AppliesRun, ServeEvents, ServesRun, GetEvents, GetsRun}
use Rattle.settings_run.specs.Laws.{VerifyEvents, VerifiesRun, LogsAll}
use Rattle.settings_run.proofs.Logged.{logs_all, logs_unopened}
use Rattle.settings_run.proofs.Served.{comes_served, all_served}

-- An opening begins no job.
pub opened_job : (I : Image) (W : World) (boot : Bool) → W.job ≡ Idle → Idle ≡ (opened I W boot).job
unfolding opened
opened_job I W boot idle = sym (ap (λ (j : Job). noting j (added_keys I.defaults.values W.held.live.values)) idle)

module _ (I : Image) (good : IsGood I) (folder : Folder) (is : IsImageOfFolder I folder) (W : World) (old new : History) (begins : Begins I folder W old) where
  -- ---- a store that was not opened

  idle : is_running W.job ≡ false
  idle = ap is_running begins.idle

  -- A file stays paid where the opening was not taken, and where it was, as by one that succeeded.
  failed_pays : (boot taken : Bool) → StayPaid I W (Opened boot (Failing taken) ∷ [])
  failed_pays boot true f covered (inl paid) = openings_pay I good W boot idle f covered (inl paid)
  failed_pays boot false f covered (inl paid) = paid
  failed_pays boot taken f covered (inr booted) = ⊎_elim
      (λ here. booted_paid I good f covered W (Opened boot (Failing taken)) here)
      (λ none. absurd (cc none))
      (or_cases (boots W (Opened boot (Failing taken))) false booted)

  module _ (form : List Event → Type 0) (r r' : Option (List Run)) (boot : Bool) (outcome : Outcome)
      (formed : (events : List Event) → IsUnopened boot outcome events → form events) (same : r' ≡ r) where
    same_runs : (X Y : World) → Y.runs ≡ X.runs → Moves r r' (λ a b. a ≡ X.runs → b ≡ Y.runs)
    same_runs X Y e = moves_same same (λ s was. was ∙ sym e)

    failing_runs : (taken : Bool) → (next I W (Opened boot (Failing taken))).runs ≡ W.runs
    unfolding opened
    failing_runs true = refl
    failing_runs false = refl

    not_run : ((outcome ≡ Err refused.Disk) ⊎ (outcome ≡ Err refused.Memory)) → OpensNot I folder W W boot old new → IsRun I folder W form r r' old new
    not_run told not = record {
      events = Opened boot (Failing not.taken) ∷ [];
      form_is = formed _ (inl (not.taken, refl, told));
      runs_to = whole I good folder W (Opened boot (Failing not.taken) ∷ []) old new not.other not.disk not.late
          (one_paid I W (Opened boot (Failing not.taken)) (failed_pays boot not.taken)) not.moments not.keeps (λ e. absurd (cc e));
      touches = not.touches;
      ran = same_runs W (after I W (Opened boot (Failing not.taken) ∷ [])) (failing_runs not.taken);
    }

    kept_run : (e : OpenError) → IsRefusal e → outcome ≡ Err (not_opened e) → Opens boot (Err e) old new → IsRun I folder W form r r' old new
    kept_run e refusal told opens =
        let kept : IsKeptAt I folder W W old new = refusals_keep I folder W W boot e old new begins.disk refusal opens in
        record {
          events = [];
          form_is = formed [] (inr (refl, e, refusal, told));
          runs_to = whole I good folder W [] old new W kept.disk (Before refl refl) (none_paid I W) kept.moments
              (none_moments I W W old new begins.disk.store begins.disk.etc kept.moments) (λ e. kept.disk);
          touches = kept.touches;
          ran = same_runs W W refl;
        }

    -- It is a run of the failed opening, or of no event.
    pub unopened_run : (e : OpenError) → outcome ≡ Err (not_opened e) → Opens boot (Err e) old new → IsRun I folder W form r r' old new
    unopened_run opening.Failed told opens = not_run (inl told) (openings_run I good folder is W W boot (Err opening.Failed) old new begins.disk idle opens)
    unopened_run opening.Memory told opens = not_run (inr told) (openings_run I good folder is W W boot (Err opening.Memory) old new begins.disk idle opens)
    unopened_run opening.NoStore told opens = kept_run opening.NoStore tt told opens
    unopened_run (opening.BadLink path) told opens = kept_run (opening.BadLink path) tt told opens
    unopened_run (opening.BadJournal path) told opens = kept_run (opening.BadJournal path) tt told opens
    unopened_run (opening.Damaged path) told opens = kept_run (opening.Damaged path) tt told opens
    unopened_run (opening.OldFormat directory) told opens = kept_run (opening.OldFormat directory) tt told opens
    unopened_run (opening.BadImage file kind at) told opens = kept_run (opening.BadImage file kind at) tt told opens
    unopened_run (opening.IllTyped key) told opens = kept_run (opening.IllTyped key) tt told opens

  -- The opening runs no program.
  pub opened_runs : (boot : Bool) → (opened I W boot).runs ≡ W.runs
  unfolding opened
  opened_runs boot = refl

  runs_after : (boot : Bool) (es : List Event) (r r' : Option (List Run)) → RunsBy I (opened I W boot) es r r' → RunsBy I W (Opened boot Succeeded ∷ es) r r'
  runs_after boot es r r' moves = subst (λ (rs : List Run). Moves r r' (λ a b. a ≡ rs → b ≡ (after I (opened I W boot) es).runs)) (opened_runs boot) moves

  -- The store was opened as the machine opens it,
  pub opening_run : (boot : Bool) (store : answer.Opened) (between : History) → Opens boot (Ok store) old between
      → OpensTo I folder W W boot store.place store.held old between × HoldsImage I store.image
  opening_run boot store between opens = openings_run I good folder is W W boot (Ok store) old between begins.disk idle opens

  -- and the core over it is where the disk is.
  pub open_kept : (boot : Bool) (store : answer.Opened) (between : History) → OpensTo I folder W W boot store.place store.held old between
      → Kept I folder (opened I W boot) (opened I W boot) between (core_over store)
  open_kept boot store between run =
      opens_kept I folder W W boot store.place store.held old between (core_over store) run refl refl (opened_job I W boot begins.idle) refl

  -- ---- requests

  module _ (qs : List Request) (Tells : World → List ℕ → Type 0) (outcome : Outcome) (r r' : Option (List Run)) where
    goes : (store : answer.Opened) (between : History) → Opens false (Ok store) old between → GoesOn qs Tells store outcome r r' between new
        → IsRun I folder W (RequestEvents I W qs Tells outcome) r r' old new
    goes store between opens on =
        let run = opening_run false store between opens in
        let f : Follows I folder (opened I W false) (opened I W false) qs Tells outcome (core_over store) r r' between new =
        on.each I good run.1 folder (opened I W false) (opened I W false) (open_kept false store between run.0) in
        record {
          events = Opened false Succeeded ∷ (f.asked ++ f.turned);
          form_is = inl (f.asked, f.turned, refl, f.comes);
          runs_to = runs_to I good folder W false (f.asked ++ f.turned) old between new store.place store.held (core_over store) f.now idle run.0 refl
              (comes_served I (opened I W false) qs Tells outcome f.asked f.turned f.comes) f.made;
          touches = runs_touch I folder W false (f.asked ++ f.turned) old between new store.place store.held (core_over store) f.now run.0 f.made;
          ran = runs_after false (f.asked ++ f.turned) r r' f.runs;
        }

    pub by_opening : (result : Result answer.Opened OpenError) (between : Option History) → Moves (Some old) between (Opens false result)
        → FollowsOpening qs Tells result outcome r r' between (Some new) → IsRun I folder W (RequestEvents I W qs Tells outcome) r r' old new
    by_opening (Ok store) None opens follows = absurd opens.told
    by_opening (Ok store) (Some mid) opens follows = goes store mid opens.told follows.told
    by_opening (Err e) between opens follows =
        let here : Moves (Some old) (Some new) (Opens false (Err e)) =
        subst (λ (d : Option History). Moves (Some old) d (Opens false (Err e))) (sym follows.1) opens in
        unopened_run (RequestEvents I W qs Tells outcome) r r' false outcome (λ events un. inr un) follows.2 e follows.0 here.told

  -- ---- serve

  module _ (boot : Bool) (pace : Pace) (quiet : Bool) (n n' : FaultCounts) (x x' : Option (List Exchange)) (l l' : LogState) (outcome : Outcome)
      (r r' : Option (List Run)) (fine : Bool) where
    -- The events, which were logged.
    abbrev serves_as : List Event → Type 0
    serves_as events = ServeEvents I W boot pace n n' x x' outcome events × LogsAll quiet I W events l l'

    serves_on : (store : answer.Opened) (between : History) → outcome ≡ served fine → Opens boot (Ok store) old between
        → Serves boot pace quiet fine store n n' x x' r r' l l' between new
        → IsRun I folder W serves_as r r' old new
    serves_on store between told opens serves =
        let run = opening_run boot store between opens in
        let s : ServesOn I folder (opened I W boot) (opened I W boot) boot pace quiet fine (core_over store) n n' x x' r r' l l' between new =
        serves.each I good run.1 folder is (opened I W boot) (opened I W boot) (open_kept boot store between run.0) in
        record {
          events = Opened boot Succeeded ∷ s.events;
          form_is = (inl (fine, s.rounds, s.events, refl, s.are, s.counted, s.exchanged, told), logs_all quiet I W boot s.events l l' s.logged);
          runs_to = runs_to I good folder W boot s.events old between new store.place store.held (core_over store) s.now idle run.0 refl
              (all_served I pace boot fine false (opened I W boot) s.rounds s.events s.are) s.made;
          touches = runs_touch I folder W boot s.events old between new store.place store.held (core_over store) s.now run.0 s.made;
          ran = runs_after boot s.events r r' s.runs;
        }

    pub by_serving : (result : Result answer.Opened OpenError) (between : Option History) → Moves (Some old) between (Opens boot result)
        → FollowsServing boot pace quiet fine result outcome n n' x x' r r' l l' between (Some new) → IsRun I folder W serves_as r r' old new
    by_serving (Ok store) None opens follows = absurd opens.told
    by_serving (Ok store) (Some mid) opens follows = serves_on store mid follows.0 opens.told follows.1.told
    by_serving (Err e) between opens follows =
        let here : Moves (Some old) (Some new) (Opens boot (Err e)) = subst (λ (d : Option History). Moves (Some old) d (Opens boot (Err e))) (sym follows.1)
        opens in
        unopened_run serves_as r r' boot outcome
        (λ events un. (inr (un, follows.2), logs_unopened quiet I W boot outcome events l l' follows.4 un)) follows.3 e follows.0 here.told

pub requests_run : (qs : List Request) (Tells : World → List ℕ → Type 0) → RequestsRun qs Tells
requests_run qs Tells I good folder is W outcome r r' old new begins carries =
    by_opening I good folder is W old new begins qs Tells outcome r r' carries.opening carries.between carries.opens carries.follows

pub sets_run : SetsRun
sets_run pairs = requests_run (set_requests pairs) IsSettingsLine

pub applies_run : AppliesRun
applies_run all = requests_run (apply_requests all) IsJobLine

pub serves_run : ServesRun
serves_run I good folder is W boot pace quiet n n' x x' l l' outcome r r' old new begins serves =
    by_serving I good folder is W old new begins boot pace quiet n n' x x' l l' outcome r r' serves.fine serves.opening serves.between serves.opens
    serves.follows

-- ---- get

module _ (I : Image) (good : IsGood I) (folder : Folder) (is : IsImageOfFolder I folder) (W : World) (old new : History) (begins : Begins I folder W old)
    (keys : List (List (List ℕ))) (outcome : Outcome) (r : Option (List Run)) where
  gets : (result : Result answer.Opened OpenError) → Opens false result old new → AnswersOpening keys result outcome
      → IsRun I folder W (GetEvents I W keys outcome) r r old new
  gets (Ok store) opens answers =
      let run = opening_run I good folder is W old new begins false store new opens in
      let kept : Kept I folder (opened I W false) (opened I W false) new (core_over store) =
      open_kept I good folder is W old new begins false store new run.0 in
      record {
        events = Opened false Succeeded ∷ [];
        form_is = inl (
          refl,
          subst (λ (h : Held). Answers h.live.values keys outcome)
              (sym (core_holds I folder (opened I W false) (opened I W false) new (core_over store) kept refl)) answers,
        );
        runs_to = runs_to I good folder W false [] old new new store.place store.held (core_over store) (core_over store) (ap is_running begins.idle) run.0 refl
            refl
            (ran_none I folder (opened I W false) (opened I W false) new (core_over store) kept);
        touches = run.0.touches;
        ran = moves_same refl (λ s was. was ∙ sym (opened_runs I good folder is W old new begins false));
      }
  gets (Err e) opens told = unopened_run I good folder is W old new begins (GetEvents I W keys outcome) r r false outcome (λ events un. inr un) refl e told
      opens

pub gets_run : GetsRun
gets_run I good folder is W keys outcome r old new begins got = gets I good folder is W old new begins keys outcome r got.result got.opens.told got.answers

-- ---- verify

module _ (I : Image) (good : IsGood I) (folder : Folder) (is : IsImageOfFolder I folder) (W : World) (old new : History) (begins : Begins I folder W old)
    (outcome : Outcome) (r : Option (List Run)) where
  verifies : (store : answer.Opened) (between : History) → Opens false (Ok store) old between → Verifies store outcome between new
      → IsRun I folder W (VerifyEvents I W outcome) r r old new
  verifies store between opens on =
      let run = opening_run I good folder is W old new begins false store between opens in
      let v : IsVerified I folder (opened I W false) (opened I W false) outcome (core_over store) between new =
      on.each I good run.1 folder (opened I W false) (opened I W false) (open_kept I good folder is W old new begins false store between run.0) in
      let reads : List Event = Asked Verify v.reading ∷ [] in
      record {
        events = Opened false Succeeded ∷ reads;
        form_is = inl (v.reading, v.opens, refl, v.tells);
        runs_to = runs_to I good folder W false reads old between new store.place store.held (core_over store) v.now (ap is_running begins.idle) run.0 refl refl
            v.made;
        touches = runs_touch I folder W false reads old between new store.place store.held (core_over store) v.now run.0 v.made;
        ran = runs_after I good folder is W old new begins false reads r r
            (moves_same refl (λ s was. was ∙ sym (request_runs I (opened I W false) Verify v.reading)));
      }

  by_verifying : (result : Result answer.Opened OpenError) (between : Option History) → Moves (Some old) between (Opens false result)
      → VerifiesAfter result outcome between (Some new) → Some new ≡ between → IsRun I folder W (VerifyEvents I W outcome) r r old new
  by_verifying (Ok store) None opens follows same = absurd opens.told
  by_verifying (Ok store) (Some mid) opens follows same = verifies store mid opens.told follows.told
  by_verifying (Err e) between opens follows same =
      let here : Moves (Some old) (Some new) (Opens false (Err e)) =
      subst (λ (d : Option History). Moves (Some old) d (Opens false (Err e))) (sym same) opens in
      unopened_run I good folder is W old new begins (VerifyEvents I W outcome) r r false outcome (λ events un. inr un) refl e follows here.told

pub verifies_run : VerifiesRun
verifies_run I good folder is W outcome r old new begins verified =
    by_verifying I good folder is W old new begins outcome r verified.opening verified.between verified.opens verified.follows verified.same
