-- What was made on a disk that tells, and what no event is.
use Rattle.std.proofs.Common.{◌≡◌, inl, ⊎_elim, true, false, List, [], Result, Ok, Err, OnOk, refl, ap}
use Rattle.outside.specs.History.{History, tree_of, EachCrashState}
use Rattle.outside.proofs.Told.{moves_same}
use Rattle.settings_machine.specs.World.{Image, World, Idle, is_running}
use Rattle.settings_machine.specs.Step.{with_job}
use Rattle.settings_machine.specs.Events.{Event, after, faulted_after}
use Rattle.settings_machine.specs.Paid.{IsGood}
use Rattle.settings_machine.proofs.Programs.{jobs_run_in_order}
use Rattle.machine_disk.specs.Kept.{Folder, DiskAt}
use Rattle.machine_disk.specs.Ran.{RunsTo, RunsBy}
use Rattle.machine_disk.specs.Store.{Recovers}
use Rattle.machine_disk.proofs.Runs.{recovers_now}
use Rattle.machine_disk.proofs.Quiet.{IsAlike, alike_store}
use Rattle.store_events.specs.Laws.{HasStayed}
use Rattle.store_events.proofs.Stays.{same_disks_stay}
use Rattle.command_outcome.specs.Ends.{Outcome}
use Rattle.command_words.specs.Orders.{Order}
use Rattle.settings_cmd.specs.Does.{Devices}
use Rattle.settings_run.specs.Laws.{Begins}
use Rattle.settings_run.specs.Events.{Makes}
use Rattle.settings_run.specs.Headline.{IsRun, acknowledges_all}
use Rattle.settings_run.specs.Touched.{StaysElsewhere}
use Rattle.settings_run.proofs.PaidFiles.{files_paid}
use Rattle.settings_run.proofs.Touched.{none_elsewhere}

-- What holds whatever the command came to holds where it ended well.
where_well : {T : Type 0} {A E : Type 0} (result : Result A E) → T → OnOk result T
where_well (Ok said) t = t
where_well (Err e) t = tt

-- What follows from what holds where it ended well, does too.
well_then : {T U : Type 0} {A E : Type 0} (result : Result A E) → (T → U) → OnOk result T → OnOk result U
well_then (Ok said) follows t = follows t
well_then (Err e) follows t = tt

-- A disk that is at a world alone is so whatever the job is, and the next run may begin.
next_begins : (I : Image) (folder : Folder) (X : World) (h : History) → DiskAt I folder X X h → Begins I folder (with_job X Idle) h
next_begins I folder X h disk = record {
  disk = record {
    store = alike_store X (with_job X Idle) (tree_of h) alike disk.store;
    etc = record { each = disk.etc.each };
    image = disk.image;
    crash_states = λ c left. ⊎_elim (λ has. inl (alike_store X (with_job X Idle) c alike has)) (λ has. inl (alike_store X (with_job X Idle) c alike has))
        (disk.crash_states c left);
    same_etc = refl;
    unsettled = disk.unsettled;
  };
  idle = refl;
} where
  alike : IsAlike X (with_job X Idle)
  alike = record { version = refl; format = refl; held = refl; etc = refl }

module _ (order : Order) (I : Image) (good : IsGood I) (folder : Folder) (W : World) (b n : Devices) (outcome : Outcome) where
  module _ (old new : History) (begins : Begins I folder W old) where
    -- A run of these events, where no call of the disk has failed if it ended well.
    pub run_of : (events : List Event) → Makes order I folder W b n outcome old events → RunsTo I folder W events old new → RunsBy I W events b.runs n.runs
        → StaysElsewhere order I events old new → (acknowledges_all order ≡ true → OnOk outcome (faulted_after false events ≡ false))
        → IsRun order I folder W b n outcome old new
    run_of events made runs ran elsewhere well = record {
      events = events;
      machine = record { made = made; settings = runs.store; files = runs.etc };
      crashes = record { any_moment = runs.any_moment; keeps = runs.keeps; at_exit = runs.at_exit; ended_well = λ all. well_then outcome recovers (well all) };
      paid_files = files_paid I folder W events old new runs;
      restarts = record { restarts = jobs_run_in_order I W (ap is_running begins.idle) events; ran = ran };
      goes_on = record { calm = goes_on; ended_well = λ all. well_then outcome goes_on (well all) };
      elsewhere = elsewhere;
    } where
      goes_on : faulted_after false events ≡ false → Begins I folder (with_job (after I W events) Idle) new
      goes_on calm = next_begins I folder (after I W events) new (runs.settles calm)

      recovers : faulted_after false events ≡ false → EachCrashState (Recovers I (after I W events)) new
      recovers calm c left = ⊎_elim (λ is. is) (λ is. is) (recovers_now I folder (after I W events) (after I W events) new (runs.settles calm) c left)

    -- A run of none.
    pub stays : Makes order I folder W b n outcome old [] → n.runs ≡ b.runs → HasStayed I folder W old new → StaysElsewhere order I [] old new
        → IsRun order I folder W b n outcome old new
    stays made same stayed elsewhere = run_of [] made stayed (moves_same same (λ s was. was)) elsewhere (λ all. where_well outcome refl)

  -- Nothing was done.
  pub untouched : (h : History) → Begins I folder W h → Makes order I folder W b n outcome h [] → n.runs ≡ b.runs
      → IsRun order I folder W b n outcome h h
  untouched h begins made same = stays h h begins made same (same_disks_stay I good folder W h begins.disk) (none_elsewhere order I [] h)
