-- The headline: what every run of the program is, said of the map machine.
use Rattle.std.specs.Prelude.{◌≡◌, ◌⊎◌, ◌++◌, ℕ, Bool, true, false, List, [], Option, Some, Err, OnOk}
use Rattle.outside.specs.Faults.{HasCauseOf, Rose}
use Rattle.outside.specs.History.{History, tree_of, EachCrashState}
use Rattle.outside.specs.Since.{EachSince}
use Rattle.outside.specs.Spawner.{Run}
use Rattle.outside.specs.Told.{Moves}
use Rattle.outside.specs.Names.{Names}
use Rattle.outside.specs.Tree.{Tree, node_at, file_in}
use Rattle.settings_tree.specs.declared.held.Held.{Held}
use Rattle.held_text.specs.Dump.{SpellsDump}
use Rattle.settings_machine.specs.World.{Image, World, Idle, owes_none, due}
use Rattle.settings_machine.specs.Covered.{IsCovered}
use Rattle.settings_machine.specs.Step.{with_job}
use Rattle.settings_machine.specs.Events.{Event, Began, Moved, next, after, faulted_after}
use Rattle.settings_machine.specs.Jobs.{RunInOrder}
use Rattle.settings_machine.specs.Paid.{IsCurrent, IsPaid, WasPaid, IsGood}
use Rattle.machine_disk.specs.Kept.{Folder}
use Rattle.machine_disk.specs.Ran.{AtPrefix, AtLatePrefix, HasMoments, IsWorldOf, RunsBy}
use Rattle.machine_disk.specs.Store.{is_store, bytes_at, HasStore, HasFiles, Recovers}
use Rattle.store_open.specs.Laws.{IsImageOfFolder}
use Rattle.store_events.specs.Laws.{IsBare, IsBeginning, HasBegun, forgot}
use Rattle.version_links.specs.declared.version.Version.{Version}
use Rattle.command_outcome.specs.Ends.{Outcome, Ends}
use Rattle.command_outcome.specs.declared.refusal.Refusal.TheVariants as refused
use Rattle.command_words.specs.Orders.{Order, Spells, SpellsNone, init, serve, migrate, restore, forget}
use Rattle.core_commands.specs.Handing.{HasSpawnCause}
use Rattle.settings_cmd.specs.Carried.{Carried, IsMisused, ServesNot}
use Rattle.settings_cmd.specs.Does.{Faults, Devices, Does}
use Rattle.settings_run.specs.Laws.{Begins}
use Rattle.settings_run.specs.Events.{Makes, MovesBy}
use Rattle.settings_run.specs.Touched.{ChangesOnly, StaysElsewhere}

-- ---- what a run is

-- The replies and lines are those of the machine after the events, and so are the settings and the configuration files of the disk.
pub record IsMachines (order : Order) (I : Image) (folder : Folder) (W : World) (before now : Devices) (outcome : Outcome)
    (events : List Event) (old new : History) : Type 0 where
  pub made : Makes order I folder W before now outcome old events
  pub settings : HasStore (after I W events) (tree_of new)
  pub files : HasFiles (after I W events).etc (tree_of new)

-- Whether a command acknowledges all its events by ending well. `serve` acknowledges requests alone, each by its reply.
abbrev pub acknowledges_all : Order → Bool
acknowledges_all (serve boot slice while_idle connections quiet) = false
acknowledges_all _ = true

-- A crash at any moment recovers to a prefix of the events. For each prefix there is a moment at which its events were made: from it on a crash recovers
-- to a prefix that leaves none of them out that is acknowledged. At the end it is one after which no event is acknowledged, and all of them where a
-- command other than `serve` has ended well.
pub record RecoversToPrefix (order : Order) (I : Image) (W : World) (outcome : Outcome) (events : List Event) (old new : History) : Type 0 where
  pub any_moment : EachSince (AtPrefix I W events) old new
  pub keeps : HasMoments I W W events old new
  pub at_exit : EachCrashState (AtLatePrefix I W events) new
  pub ended_well : acknowledges_all order ≡ true → OnOk outcome (EachCrashState (Recovers I (after I W events)) new)

-- The file is what its template renders to from scratch, or it is due; so where no key is owed, it is the former.
pub record StandsPaid (I : Image) (X : World) (file : List ℕ) : Type 0 where
  pub paid : IsPaid I X file
  pub current : owes_none (due I X.held) ≡ true → IsCurrent I X file

-- So is each covered file after the events that was so before them; and after a boot each is, whatever it was before.
abbrev pub FilesStay : Image → World → List Event → Type 0
FilesStay I W events = (file : List ℕ) → IsCovered I file → WasPaid I W events file → StandsPaid I (after I W events) file

-- A crash that leaves this tree recovers to the world after the events, and in each world of the tree the same files are so.
pub record LeavesFiles (I : Image) (W : World) (events : List Event) (crashed : Tree) : Type 0 where
  pub recovers : Recovers I (after I W events) crashed
  pub stand : (file : List ℕ) → IsCovered I file → WasPaid I W events file → (X : World) → IsWorldOf crashed X → StandsPaid I X file

-- It is so after each prefix of the events, and by a prefix of them in what a crash at any moment leaves.
pub record FilesArePaid (I : Image) (W : World) (events : List Event) (old new : History) : Type 0 where
  pub any_prefix : (first rest : List Event) → events ≡ first ++ rest → FilesStay I W first
  pub any_moment : EachSince (λ crashed. (first : List Event) × (rest : List Event) × (events ≡ first ++ rest) × LeavesFiles I W first crashed) old new

-- The programs that were run are those of the events' jobs, and each job ran the commands of the services that what was owed when it began affects,
-- in order, up to the first that failed.
pub record RestartsAffected (I : Image) (W : World) (events : List Event) (ran_before ran_after : Option (List Run)) : Type 0 where
  pub restarts : RunInOrder I W events
  pub ran : RunsBy I W events ran_before ran_after

-- Where no call of the disk has failed in the run, or none since an opening that succeeded, and where a command other than `serve` has ended well,
-- the next run may begin at the last world, with an idle job.
pub record GoesOn (order : Order) (I : Image) (folder : Folder) (W : World) (outcome : Outcome) (events : List Event) (new : History) : Type 0 where
  pub calm : faulted_after false events ≡ false → Begins I folder (with_job (after I W events) Idle) new
  pub ended_well : acknowledges_all order ≡ true → OnOk outcome (Begins I folder (with_job (after I W events) Idle) new)

-- ---- a run where a store is there

-- It is these events of the machine.
pub record IsRun (order : Order) (I : Image) (folder : Folder) (W : World) (before now : Devices) (outcome : Outcome) (old new : History) : Type 0 where
  pub events : List Event
  pub machine : IsMachines order I folder W before now outcome events old new
  pub crashes : RecoversToPrefix order I W outcome events old new
  pub paid_files : FilesArePaid I W events old new
  pub restarts : RestartsAffected I W events before.runs now.runs
  pub goes_on : GoesOn order I folder W outcome events new
  pub elsewhere : StaysElsewhere order I events old new

-- Whether an order changes the store at once: a move, or the forgetting of keys.
abbrev pub is_at_once : Order → Bool
is_at_once (migrate to) = true
is_at_once (forget keys) = true
is_at_once _ = false

-- The events of such a change.
abbrev pub ChangesBy : Order → Folder → World → List Event → Type 0
ChangesBy (migrate to) folder W events = MovesBy folder W to events
ChangesBy (forget keys) folder W events = events ≡ forgot keys
ChangesBy _ folder W events = ⊥

-- The disk failed such a change, and it happened or not: a crash recovers to the world before it, or to the one after it. Outside the folder `store`
-- nothing is changed.
pub record FailsToChange (order : Order) (I : Image) (folder : Folder) (W : World) (before now : Devices) (outcome : Outcome) (old new : History)
    : Type 0 where
  pub at_once : is_at_once order ≡ true
  pub outcome_is : outcome ≡ Err refused.Disk
  pub any_moment : EachSince (λ crashed. LeavesFiles I W [] crashed
      ⊎ ((events : List Event) × ChangesBy order folder W events × LeavesFiles I W events crashed)) old new
  pub no_runs : now.runs ≡ before.runs
  pub elsewhere : StaysElsewhere order I [] old new

-- A run is a list of events; but where the disk failed a move or the forgetting of keys, that happened or not.
abbrev pub RunsOver : Order → Image → Folder → World → Devices → Devices → Outcome → History → History → Type 0
RunsOver order I folder W before now outcome old new =
    IsRun order I folder W before now outcome old new ⊎ FailsToChange order I folder W before now outcome old new

-- By each image that the folder makes, and each world that the disk begins at.
abbrev pub RunsOverAll : Order → Devices → Devices → Outcome → History → History → Type 0
RunsOverAll order before now outcome old new = (I : Image) → IsGood I → (folder : Folder) → IsImageOfFolder I folder → (W : World) → Begins I folder W old
    → RunsOver order I folder W before now outcome old new

-- ---- a run where no store is there

-- A store is begun by the event: a crash at any moment leaves none, or it, whole; and where the command ended well, it, and the next run may begin
-- there. Outside the folder `store` nothing is changed.
pub record BeginsStore (event : Event) (outcome : Outcome) (old new : History) : Type 0 where
  pub each : (I : Image) → IsGood I → (W : World) → IsBare W old
      → IsBeginning I (next I W event) old new × OnOk outcome (HasBegun I (bytes_at (tree_of old)) (next I W event) new)
  pub elsewhere : ChangesOnly (λ path. is_store path ≡ true) old new

-- The file at the path spells a dump, in whatever JSON, and a store of its version that holds what it holds is begun.
pub record RestoresDump (path : Names) (outcome : Outcome) (old new : History) : Type 0 where
  pub text : List ℕ
  pub version : Version
  pub held : Held
  pub there : file_in (node_at (tree_of old) path) ≡ Some text
  pub spelled : SpellsDump text version held
  pub begins : BeginsStore (Moved version held) outcome old new

-- It does, or the command did not end well, and the disk is as before.
abbrev pub RestoresStore : Names → Outcome → History → History → Type 0
RestoresStore path outcome old new = RestoresDump path outcome old new ⊎ (OnOk outcome ⊥ × (new ≡ old))

-- ---- the headline

-- Out of memory is reported by exit status 1 and no other. That a device failed is what a command came to only where its count of faults rose,
-- whatever the status is; and, but by `serve`, which tells its clients alone, no fault of disk or spawner is passed over.
pub record HasCauses (words : List (List ℕ)) (outcome : Outcome) (status : ℕ) (before now : Faults) : Type 0 where
  pub memory : outcome ≡ Err refused.Memory → status ≡ 1
  pub disk : outcome ≡ Err refused.Disk → Rose before.disk now.disk
  pub door : outcome ≡ Err refused.Door → Rose before.door now.door
  pub spawner : (name : List ℕ) → outcome ≡ Err (refused.Spawn name) → Rose before.spawner now.spawner
  pub disk_told : ServesNot words → HasCauseOf refused.Disk before.disk now.disk outcome
  pub spawner_told : ServesNot words → HasSpawnCause before.spawner now.spawner outcome

-- There is one thing that the run came to. The status and the text are of it, or the text could not be written, or it ran out of memory; it
-- has its cause; it is what the words order, done as they order it; and that is a run of the machine, crash included.
pub record Headline (words : List (List ℕ)) (status : ℕ) (before now : Devices) (output_before output_now : Option (List ℕ)) : Type 0 where
  pub outcome : Outcome
  pub ends : Ends outcome status output_before output_now
  pub causes : HasCauses words outcome status before.faults now.faults
  pub misused : SpellsNone words → Carried IsMisused outcome before.disk now.disk
  pub does : (order : Order) → Spells words order → Does order outcome before now
  pub runs : (order : Order) → Spells words order
      → Moves before.disk now.disk (RunsOverAll order before now outcome)
  pub begins : (version : Version) → Spells words (init version) → Moves before.disk now.disk (BeginsStore (Began version) outcome)
  pub restores : (path : Names) → Spells words (restore path) → Moves before.disk now.disk (RestoresStore path outcome)
