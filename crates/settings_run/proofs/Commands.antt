-- What each command came to is a run of the machine, where a store is there.
use Rattle.std.proofs.Common.{◌≡◌, inl, inr, ℕ, Bool, false, List, [], Option, Some, None, Result, Ok, Err, refl, sym, subst}
use Rattle.outside.specs.History.{History}
use Rattle.outside.specs.Names.{Names}
use Rattle.outside.specs.Spawner.{Run}
use Rattle.outside.specs.Told.{Moves}
use Rattle.outside.proofs.Told.{moves_same, moves_map, moves_then}
use Rattle.json_trees.specs.declared.scalar.Scalar.{Scalar}
use Rattle.settings_machine.specs.World.{Key, Image, World}
use Rattle.settings_machine.specs.Requests.{Request}
use Rattle.settings_machine.specs.Events.{Event, new_held}
use Rattle.machine_disk.specs.Kept.{Folder}
use Rattle.machine_disk.specs.Touched.{MayChange}
use Rattle.version_links.specs.declared.version.Version.{Version}
use Rattle.store_open.specs.Beginning.{Begins}
use Rattle.store_open.specs.Opening.{Opens}
use Rattle.store_open.specs.declared.opened.Opened.{Opened}
use Rattle.store_open.specs.declared.open_error.OpenError.{OpenError}
use Rattle.migrate_chain.specs.Store.{IsInOther}
use Rattle.migrate_chain.proofs.Migrated.{touched_since}
use Rattle.store_events.proofs.Stays.{prunings_stay}
use Rattle.command_outcome.specs.Ends.{Outcome}
use Rattle.command_outcome.specs.declared.refusal.Refusal.TheVariants as refused
use Rattle.command_words.specs.Orders.{Order, init, serve, set, get, apply, verify, prune, load}
use Rattle.core_commands.specs.Carried.{set_requests, apply_requests, FollowsOpening, CarriesOut, Carried as Commanded}
use Rattle.core_commands.specs.Lines.{IsSettingsLine, IsJobLine}
use Rattle.core_commands.specs.Verifying.{HasVerified}
use Rattle.settings_cmd.specs.Carried.{Carried, IsBegun, IsGot, IsPruned, IsLoaded}
use Rattle.api_server.specs.declared.pace.Pace.{Pace}
use Rattle.settings_cmd.specs.Serving.{FollowsOpening as FollowsServing, IsServed, HasServed}
use Rattle.settings_cmd.specs.Does.{Devices, counts_of, pace_of}
use Rattle.settings_run.specs.Laws as runs
use Rattle.settings_run.specs.Laws.{RequestEvents, ServeEvents, LogsAll, GetEvents, VerifyEvents}
use Rattle.settings_run.proofs.Logged.{logs_nothing}
use Rattle.settings_run.proofs.CommandRuns.{requests_run, serves_run, gets_run, verifies_run}
use Rattle.settings_run.specs.Events.{Makes}
use Rattle.settings_run.specs.Headline.{RunsOver, RunsOverAll}
use Rattle.settings_run.proofs.Answered.{run_of, stays, untouched}
use Rattle.settings_run.specs.Touched.{MayTouch}
use Rattle.settings_run.proofs.Touched.{changes_only, own_elsewhere}
use Rattle.settings_run.proofs.Calm.{ends_calm, requests_calm, gets_calm, verifies_calm}

module _ (b n : Devices) (outcome : Outcome) where
  -- The disk is as before, and there is no event.
  pub unmoved : (order : Order) (d d' : Option History) → d' ≡ d → n.runs ≡ b.runs
      → ((I : Image) (folder : Folder) (W : World) (h : History) → Makes order I folder W b n outcome h [])
      → Moves d d' (RunsOverAll order b n outcome)
  unmoved order d d' same no_runs made =
      moves_same same (λ h I good folder image W at. inl (untouched order I good folder W b n outcome h at (made I folder W h) no_runs))

  -- ---- commands that make no event

  pub inits : (version : Version) (d d' : Option History) → n.runs ≡ b.runs → Carried (IsBegun version) outcome d d'
      → Moves d d' (RunsOverAll (init version) b n outcome)
  inits version d d' no_runs (inl is) = moves_map begun is.begins where
    begun : (old new : History) → Begins version new_held is.result old new → RunsOverAll (init version) b n outcome old new
    begun old new begins I good folder image W at =
        let same : new ≡ old = begins.still W.version at.disk.store.directory at.disk.store.resolves in
        subst (λ (h : History). RunsOver (init version) I folder W b n outcome old h) (sym same)
        (inl (untouched (init version) I good folder W b n outcome old at refl no_runs))
  inits version d d' no_runs (inr none) = unmoved (init version) d d' none.1 no_runs (λ I folder W h. refl)

  pub prunes : (d d' : Option History) → n.runs ≡ b.runs → Carried IsPruned outcome d d' → Moves d d' (RunsOverAll prune b n outcome)
  prunes d d' no_runs (inl is) = moves_map (λ old new pruned I good folder image W at.
      inl (stays prune I good folder W b n outcome old new at refl no_runs (prunings_stay I good folder W is.result old new at.disk pruned)
      (λ version directory leads. changes_only (IsInOther directory) old new (touched_since (IsInOther directory) old new
      (pruned.sync_first (record { version = version; directory = directory }) leads)))))
      is.prunes
  prunes d d' no_runs (inr none) = unmoved prune d d' none.1 no_runs (λ I folder W h. refl)

  pub loads : (count : ℕ) (d d' : Option History) → n.runs ≡ b.runs → Carried (IsLoaded count) outcome d d'
      → Moves d d' (RunsOverAll (load count) b n outcome)
  loads count d d' no_runs (inl is) = unmoved (load count) d d' is.same no_runs (λ I folder W h. refl)
  loads count d d' no_runs (inr none) = unmoved (load count) d d' none.1 no_runs (λ I folder W h. refl)

  -- ---- commands that ask requests

  module _ (order : Order) (qs : List Request) (Tells : World → List ℕ → Type 0)
      (form : (I : Image) (folder : Folder) (W : World) (h : History) (events : List Event) → RequestEvents I W qs Tells outcome events
      → Makes order I folder W b n outcome h events)
      (unbegun : outcome ≡ Err refused.Memory → (I : Image) (folder : Folder) (W : World) (h : History) → Makes order I folder W b n outcome h [])
      (may : (I : Image) (events : List Event) (directory path : Names) → MayChange I events directory path → MayTouch order I events directory path) where
    requested : (old new : History) → CarriesOut qs Tells outcome b.runs n.runs (Some old) (Some new) → RunsOverAll order b n outcome old new
    requested old new carries I good folder image W at =
        let run : runs.IsRun I folder W (RequestEvents I W qs Tells outcome) b.runs n.runs old new =
        requests_run qs Tells I good folder image W outcome b.runs n.runs old new at carries in
        inl (run_of order I good folder W b n outcome old new at run.events (form I folder W old run.events run.form_is) run.runs_to run.ran
        (own_elsewhere order I run.events old new (may I run.events) run.touches)
        (λ all. ends_calm run.events outcome
        (λ said is. requests_calm I W qs Tells said run.events (subst (λ (o : Outcome). RequestEvents I W qs Tells o run.events) is run.form_is))))

    carries_out : (d d' : Option History) → CarriesOut qs Tells outcome b.runs n.runs d d' → Moves d d' (RunsOverAll order b n outcome)
    carries_out d d' carries = by carries.opening carries.between carries.opens carries.follows where
      by : (opening : Result Opened OpenError) (between : Option History) → Moves d between (Opens false opening)
          → FollowsOpening qs Tells opening outcome b.runs n.runs between d' → Moves d d' (RunsOverAll order b n outcome)
      by (Ok store) between opens follows =
          moves_then (λ old mid new o f. requested old new (record {
            opening = Ok store;
            between = Some mid;
            opens = record { told = o };
            follows =
                record { told = f };
          })) opens follows
      by (Err e) between opens follows =
          moves_map (λ old new o. requested old new (record {
            opening = Err e;
            between = Some new;
            opens = record { told = o };
            follows =
                (follows.0, refl, follows.2);
          }))
          (subst (λ (t : Option History). Moves d t (Opens false (Err e))) (sym follows.1) opens)

    pub commanded : (d d' : Option History) → Commanded qs Tells outcome b.runs n.runs d d' → Moves d d' (RunsOverAll order b n outcome)
    commanded d d' (inl carries) = carries_out d d' carries
    commanded d d' (inr none) = unmoved order d d' none.same none.no_runs (unbegun none.result_is)

  pub sets : (pairs : List (Key × Scalar)) (d d' : Option History) → Commanded (set_requests pairs) IsSettingsLine outcome b.runs n.runs d d'
      → Moves d d' (RunsOverAll (set pairs) b n outcome)
  sets pairs = commanded (set pairs) (set_requests pairs) IsSettingsLine (λ I folder W h events is. inl is) (λ memory I folder W h. inr (memory, refl))
      (λ I events directory path may. may)

  pub applies : (all : Bool) (d d' : Option History) → Commanded (apply_requests all) IsJobLine outcome b.runs n.runs d d'
      → Moves d d' (RunsOverAll (apply all) b n outcome)
  applies all = commanded (apply all) (apply_requests all) IsJobLine (λ I folder W h events is. inl is) (λ memory I folder W h. inr (memory, refl))
      (λ I events directory path may. may)

  -- ---- get

  module _ (keys : List (List (List ℕ))) (no_runs : n.runs ≡ b.runs) where
    got : (old new : History) → IsGot keys outcome (Some old) (Some new) → RunsOverAll (get keys) b n outcome old new
    got old new is I good folder image W at =
        let run : runs.IsRun I folder W (GetEvents I W keys outcome) b.runs n.runs old new =
        subst (λ (s : Option (List Run)). runs.IsRun I folder W (GetEvents I W keys outcome) b.runs s old new) (sym no_runs)
        (gets_run I good folder image W keys outcome b.runs old new at is) in
        inl (run_of (get keys) I good folder W b n outcome old new at run.events (inl run.form_is) run.runs_to run.ran
        (own_elsewhere (get keys) I run.events old new (λ directory path may. may) run.touches)
        (λ all. ends_calm run.events outcome
        (λ said told. gets_calm I W keys said run.events (subst (λ (o : Outcome). GetEvents I W keys o run.events) told run.form_is))))

    got_by : (d d' : Option History) → IsGot keys outcome d d' → Moves d d' (RunsOverAll (get keys) b n outcome)
    got_by None None is = record { told = tt }
    got_by (Some old) (Some new) is = record { told = got old new is }
    got_by None (Some new) is = absurd is.opens.told
    got_by (Some old) None is = absurd is.opens.told

    pub gets : (d d' : Option History) → Carried (IsGot keys) outcome d d' → Moves d d' (RunsOverAll (get keys) b n outcome)
    gets d d' (inl is) = got_by d d' is
    gets d d' (inr none) = unmoved (get keys) d d' none.1 no_runs (λ I folder W h. inr (none.0, refl))

  -- ---- verify

  module _ (no_runs : n.runs ≡ b.runs) where
    verified : (old new : History) → HasVerified outcome (Some old) (Some new) → RunsOverAll verify b n outcome old new
    verified old new is I good folder image W at =
        let run : runs.IsRun I folder W (VerifyEvents I W outcome) b.runs n.runs old new =
        subst (λ (s : Option (List Run)). runs.IsRun I folder W (VerifyEvents I W outcome) b.runs s old new) (sym no_runs)
        (verifies_run I good folder image W outcome b.runs old new at is) in
        inl (run_of verify I good folder W b n outcome old new at run.events (inl run.form_is) run.runs_to run.ran
        (own_elsewhere verify I run.events old new (λ directory path may. may) run.touches)
        (λ all. ends_calm run.events outcome
        (λ said told. verifies_calm I W said run.events (subst (λ (o : Outcome). VerifyEvents I W o run.events) told run.form_is))))

    verified_by : (d d' : Option History) → HasVerified outcome d d' → Moves d d' (RunsOverAll verify b n outcome)
    verified_by d d' is = by d d' is.between is is.opens is.same where
      by : (d d' between : Option History) → HasVerified outcome d d' → Moves d between (Opens false is.opening) → d' ≡ between
          → Moves d d' (RunsOverAll verify b n outcome)
      by None None between is opens same = record { told = tt }
      by (Some old) (Some new) between is opens same = record { told = verified old new is }
      by None (Some new) None is opens same = absurd (cc same)
      by None (Some new) (Some mid) is opens same = absurd opens.told
      by (Some old) None (Some mid) is opens same = absurd (cc same)
      by (Some old) None None is opens same = absurd opens.told

    pub verifies : (d d' : Option History) → Carried HasVerified outcome d d' → Moves d d' (RunsOverAll verify b n outcome)
    verifies d d' (inl is) = verified_by d d' is
    verifies d d' (inr none) = unmoved verify d d' none.1 no_runs (λ I folder W h. inr (none.0, refl))

  -- ---- serve

  module _ (boot : Bool) (slice : Option ℕ) (while_idle : Bool) (connections : Option ℕ) (quiet : Bool) where
    abbrev pub pace : Pace
    pace = pace_of slice while_idle

    -- The events, which were logged.
    abbrev serves_as : Image → World → List Event → Type 0
    serves_as I W events =
        ServeEvents I W boot pace (counts_of b.faults) (counts_of n.faults) b.connections n.connections outcome events × LogsAll quiet I W events b.log n.log

    abbrev is_served : Option History → Option History → Type 0
    is_served = IsServed boot pace quiet (counts_of b.faults) (counts_of n.faults) b.connections n.connections b.runs n.runs b.log n.log outcome

    served : (old new : History) → is_served (Some old) (Some new) → RunsOverAll (serve boot slice while_idle connections quiet) b n outcome old new
    served old new is I good folder image W at =
        let run : runs.IsRun I folder W (serves_as I W) b.runs n.runs old new =
        serves_run I good folder image W boot pace quiet (counts_of b.faults) (counts_of n.faults) b.connections n.connections b.log n.log outcome b.runs n.runs
        old new at is in
        inl (run_of (serve boot slice while_idle connections quiet) I good folder W b n outcome old new at run.events (inl run.form_is.0, run.form_is.1)
        run.runs_to run.ran
        (own_elsewhere (serve boot slice while_idle connections quiet) I run.events old new (λ directory path may. may) run.touches)
        (λ all. absurd (cc all)))

    served_by : (d d' : Option History) → is_served d d' → Moves d d' (RunsOverAll (serve boot slice while_idle connections quiet) b n outcome)
    served_by d d' is = by is.opening is.between is.opens is.follows where
      by : (opening : Result Opened OpenError) (between : Option History) → Moves d between (Opens boot opening)
          → FollowsServing boot pace quiet is.fine opening outcome (counts_of b.faults) (counts_of n.faults) b.connections n.connections b.runs n.runs
          b.log n.log between d'
          → Moves d d' (RunsOverAll (serve boot slice while_idle connections quiet) b n outcome)
      by (Ok store) between opens follows =
          moves_then (λ old mid new o f. served old new (record {
            opening = Ok store;
            fine = is.fine;
            between = Some mid;
            opens = record { told = o };
            follows =
                (follows.0, record { told = f });
          }))
          opens follows.1
      by (Err e) between opens follows =
          moves_map (λ old new o. served old new (record {
            opening = Err e;
            fine = is.fine;
            between = Some new;
            opens = record { told = o };
            follows =
                (follows.0, refl, follows.2, follows.3, follows.4);
          }))
          (subst (λ (t : Option History). Moves d t (Opens boot (Err e))) (sym follows.1) opens)

    pub serves : (d d' : Option History)
        → HasServed boot pace quiet (counts_of b.faults) (counts_of n.faults) b.connections n.connections b.runs n.runs b.log n.log outcome d d'
        → Moves d d' (RunsOverAll (serve boot slice while_idle connections quiet) b n outcome)
    serves d d' (inl is) = served_by d d' is
    serves d d' (inr none) = unmoved (serve boot slice while_idle connections quiet) d d' none.same none.no_runs
        (λ I folder W h. (inr ((none.outcome_is, refl), none.no_connections), logs_nothing quiet I W b.log n.log none.no_lines))
