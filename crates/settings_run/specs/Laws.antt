-- Laws of commands: the run of the machine that each makes, crash included.
use Rattle.std.specs.Prelude.{◌≡◌, ◌⊎◌, ℕ, Bool, true, false, List, [], ◌∷◌, ◌++◌, Option, Some, Ok, Err, OnOk, codes}
use Rattle.std.specs.FinMap.{get}
use Rattle.outside.specs.Exchange.{Exchange}
use Rattle.outside.specs.History.{History, tree_of}
use Rattle.outside.specs.Names.{Names}
use Rattle.outside.specs.Spawner.{Run, Question}
use Rattle.outside.specs.Told.{Moves}
use Rattle.outside.specs.Tree.{node_at, file_in}
use Rattle.json_trees.specs.declared.scalar.Scalar.{Scalar}
use Rattle.settings_machine.specs.World.{Key, Image, World, Idle}
use Rattle.settings_machine.specs.Requests.{Request, Verify}
use Rattle.settings_machine.specs.Step as step
use Rattle.settings_machine.specs.Step.{opened}
use Rattle.settings_machine.specs.Events.{Event, Opened, Asked, Succeeded, Failing, Began, next, after}
use Rattle.settings_machine.specs.Paid.{IsGood}
use Rattle.machine_disk.specs.Kept.{Folder, DiskAt}
use Rattle.machine_disk.specs.Touched.{TouchesOwn}
use Rattle.machine_disk.specs.Ran.{RunsTo, RunsBy, Reopens}
use Rattle.machine_disk.specs.Store.{bytes_at}
use Rattle.store_open.specs.Laws.{IsImageOfFolder, IsRefusal}
use Rattle.store_open.specs.Opening.{Opens}
use Rattle.store_open.specs.declared.open_error.OpenError.{OpenError}
use Rattle.store_open.specs.declared.opened.Opened as opened_store
use Rattle.command_outcome.specs.Ends.{Outcome}
use Rattle.command_outcome.specs.declared.refusal.Refusal.{Refusal}
use Rattle.command_outcome.specs.declared.refusal.Refusal.TheVariants as refused
use Rattle.core_commands.specs.Carried.{set_requests, apply_requests, Comes, CarriesOut}
use Rattle.core_commands.specs.Committing.{ComesTo}
use Rattle.core_commands.specs.Lines.{IsSettingsLine, IsJobLine}
use Rattle.core_commands.specs.Handing.{not_opened}
use Rattle.core_commands.specs.Verifying.{TellsStates, HasVerified}
use Rattle.api_server.specs.Causes.{FaultCounts, AreCounted}
use Rattle.api_server.specs.Rounds.{Round, AreExchanged}
use Rattle.api_server.specs.Serving.{AreServed}
use Rattle.api_server.specs.declared.pace.Pace.{Pace}
use Rattle.event_lines.specs.Logs.{LogState, Logs}
use Rattle.version_links.specs.declared.version.Version.{Version}
use Rattle.release_file.specs.declared.release.Release.{Release}
use Rattle.migrate_chain.specs.Tasks.{Mapped}
use Rattle.store_events.specs.Laws.{IsBare, IsBeginning, HasBegun, HasMoved}
use Rattle.setting_generators.specs.Asking.{wanted}
use Rattle.setting_generators.specs.Generators.{Given}
use Rattle.settings_cmd.specs.Carried.{IsBegun, IsGot, IsMigrated, HasGenerated, IsProvided}
use Rattle.settings_cmd.specs.Committing.{Made}
use Rattle.settings_cmd.specs.Generators.{generate_tx, generators_path, AreGeneratorsIn, TellsOfGenerators, Answers as AnsweredBy}
use Rattle.settings_cmd.specs.Gets.{Answers}
use Rattle.settings_cmd.specs.Serving.{served, IsServed}
use Rattle.settings_cmd.specs.UserData.{data_tx, TellsOfData}

-- Before a run: the disk is at W alone, by the files of the image's folder, and the job is idle.
pub record Begins (I : Image) (folder : Folder) (W : World) (h : History) : Type 0 where
  pub disk : DiskAt I folder W W h
  pub idle : W.job ≡ Idle

-- Events of this form were made, crash included; no path is touched but their own; and the programs that were run are those of the events.
pub record IsRun (I : Image) (folder : Folder) (W : World) (form : List Event → Type 0) (ran_before ran_after : Option (List Run)) (old new : History) : Type
    0 where
  pub events : List Event
  pub form_is : form events
  pub runs_to : RunsTo I folder W events old new
  pub touches : TouchesOwn I events old new
  pub ran : RunsBy I W events ran_before ran_after

-- The store was not opened: the disk failed or it ran out of memory, and the opening was taken or not; or what is there was refused,
-- and there is no event.
abbrev pub IsUnopened : Bool → Outcome → List Event → Type 0
IsUnopened boot outcome events =
    ((taken : Bool) × (events ≡ Opened boot (Failing taken) ∷ []) × ((outcome ≡ Err refused.Disk) ⊎ (outcome ≡ Err refused.Memory)))
    ⊎ ((events ≡ []) × (e : OpenError) × IsRefusal e × (outcome ≡ Err (not_opened e)))

-- ---- commands that ask requests

-- The opening, the requests, and turns until no job runs, by what the command came to; or the store was not opened.
abbrev pub RequestEvents : Image → World → List Request → (World → List ℕ → Type 0) → Outcome → List Event → Type 0
RequestEvents I W qs Tells outcome events =
    ((asked turned : List Event) × (events ≡ Opened false Succeeded ∷ (asked ++ turned)) × Comes I (opened I W false) qs Tells outcome asked turned)
    ⊎ IsUnopened false outcome events

-- A command that opens the store, asks these requests, drives the job to its end and tells this of the last world is a run of these events.
abbrev pub RequestsRun : List Request → (World → List ℕ → Type 0) → Type 0
RequestsRun qs Tells = (I : Image) → IsGood I → (folder : Folder) → IsImageOfFolder I folder
    → (W : World) (outcome : Outcome) (ran_before ran_after : Option (List Run))
    (old new : History) → Begins I folder W old → CarriesOut qs Tells outcome ran_before ran_after (Some old) (Some new)
    → IsRun I folder W (RequestEvents I W qs Tells outcome) ran_before ran_after old new

-- So a `set` is, with the tree of the live settings of the last world,
abbrev pub SetsRun : Type 0
SetsRun = (pairs : List (Key × Scalar)) → RequestsRun (set_requests pairs) IsSettingsLine

-- and an `apply`, with its job and what is owed.
abbrev pub AppliesRun : Type 0
AppliesRun = (all : Bool) → RequestsRun (apply_requests all) IsJobLine

-- ---- serve

-- The opening, and what is served from the opened world on, with the bytes of each connection, where each failure among the events was counted by its
-- device; or the store was not opened, and no connection accepted.
abbrev pub ServeEvents : Image → World → Bool → Pace → FaultCounts → FaultCounts → Option (List Exchange) → Option (List Exchange) → Outcome
    → List Event → Type 0
ServeEvents I W boot pace n n' x x' outcome events =
    ((fine : Bool) × (rounds : List Round) × (later : List Event) × (events ≡ Opened boot Succeeded ∷ later)
    × AreServed I pace boot fine false (opened I W boot) rounds later × AreCounted later n n' × Moves x x' (AreExchanged rounds) × (outcome ≡ served fine))
    ⊎ (IsUnopened boot outcome events × (x' ≡ x))

-- What a `serve` has logged is its events; or nothing, where that was ordered.
abbrev pub LogsAll : Bool → Image → World → List Event → LogState → LogState → Type 0
LogsAll true I W events l l' = l' ≡ l
LogsAll false I W events l l' = Logs I W events l l'

-- A `serve` is a run of these events, which were logged.
abbrev pub ServesRun : Type 0
ServesRun = (I : Image) → IsGood I → (folder : Folder) → IsImageOfFolder I folder → (W : World) (boot : Bool) (pace : Pace) (quiet : Bool)
    (n n' : FaultCounts) (x x' : Option (List Exchange)) (l l' : LogState) (outcome : Outcome) (ran_before ran_after : Option (List Run))
    (old new : History) → Begins I folder W old
    → IsServed boot pace quiet n n' x x' ran_before ran_after l l' outcome (Some old) (Some new)
    → IsRun I folder W (λ events. ServeEvents I W boot pace n n' x x' outcome events × LogsAll quiet I W events l l') ran_before ran_after old new

-- ---- get

-- The opening, of whose world it is answered; or the store was not opened.
abbrev pub GetEvents : Image → World → List (List (List ℕ)) → Outcome → List Event → Type 0
GetEvents I W keys outcome events =
    ((events ≡ Opened false Succeeded ∷ []) × Answers (opened I W false).held.live.values keys outcome) ⊎ IsUnopened false outcome events

-- A `get` is a run of these events.
abbrev pub GetsRun : Type 0
GetsRun = (I : Image) → IsGood I → (folder : Folder) → IsImageOfFolder I folder → (W : World) (keys : List (List (List ℕ))) (outcome : Outcome)
    (r : Option (List Run))
    (old new : History) → Begins I folder W old → IsGot keys outcome (Some old) (Some new) → IsRun I folder W (GetEvents I W keys outcome) r r old new

-- ---- verify

-- The opening, and a reading of the files of its world, which is reported; or the store was not opened.
abbrev pub VerifyEvents : Image → World → Outcome → List Event → Type 0
VerifyEvents I W outcome events =
    ((reading : step.Outcome) × Reopens false reading [] × (events ≡ Opened false Succeeded ∷ Asked Verify reading ∷ [])
    × TellsStates I (opened I W false) reading outcome)
    ⊎ IsUnopened false outcome events

-- A `verify` is a run of these events.
abbrev pub VerifiesRun : Type 0
VerifiesRun = (I : Image) → IsGood I → (folder : Folder) → IsImageOfFolder I folder → (W : World) (outcome : Outcome) (r : Option (List Run))
    (old new : History) → Begins I folder W old → HasVerified outcome (Some old) (Some new) → IsRun I folder W (VerifyEvents I W outcome) r r old new

-- ---- generate and user-data

-- The opening, and a commit of the pairs to the opened world; where there are none, the opening alone, and that is reported.
abbrev pub MadeEvents : Image → World → List ℕ → Made → Outcome → List Event → Type 0
MadeEvents I W tx (Ok pairs) outcome events = (asked : List Event) × (events ≡ Opened false Succeeded ∷ asked)
    × ComesTo I (opened I W false) tx pairs outcome asked
MadeEvents I W tx (Err refusal) outcome events = (events ≡ Opened false Succeeded ∷ []) × (outcome ≡ Err refusal)

-- What the generators of the image's folder give to a world, with what was asked before and after: they can't be read; or those whose
-- key has no live value are asked.
abbrev pub GivenBy : Image → Folder → World → Option (List Question) → Option (List Question) → Made → Type 0
GivenBy I folder X a a' made =
    ((refusal : Refusal) × (made ≡ Err refusal) × TellsOfGenerators I.types (folder (codes "image" ∷ generators_path)) refusal × (a' ≡ a))
    ⊎ ((given : List Given) × AreGeneratorsIn I.types (folder (codes "image" ∷ generators_path)) given × AnsweredBy (wanted X.held.live given) a a' made)

-- Each key that is live in the one world has its value in the other.
abbrev pub KeepsLive : World → World → Type 0
KeepsLive X Y = (key : Key) (value : Scalar) → get X.held.live.values key ≡ Some value → get Y.held.live.values key ≡ Some value

-- The pairs that the generators give to the opened world are committed to it, and where that is done each key that was live keeps its
-- value; or the store was not opened, and nothing was asked.
abbrev pub GenerateEvents : Image → Folder → World → Option (List Question) → Option (List Question) → Outcome → List Event → Type 0
GenerateEvents I folder W a a' outcome events =
    ((made : Made) × GivenBy I folder (opened I W false) a a' made × MadeEvents I W generate_tx made outcome events
    × OnOk outcome (KeepsLive (opened I W false) (after I W events)))
    ⊎ (IsUnopened false outcome events × (a' ≡ a))

-- A `generate` is a run of these events.
abbrev pub GeneratesRun : Type 0
GeneratesRun = (I : Image) → IsGood I → (folder : Folder) → IsImageOfFolder I folder → (W : World) (a a' : Option (List Question)) (outcome : Outcome)
    (r : Option (List Run))
    (old new : History) → Begins I folder W old → HasGenerated a a' outcome (Some old) (Some new)
    → IsRun I folder W (GenerateEvents I folder W a a' outcome) r r old new

-- The pairs of the file that is at the path once the store is open are committed to the opened world.
pub record IsProvision (I : Image) (W : World) (path : Names) (outcome : Outcome) (events : List Event) (old : History) : Type 0 where
  pub store : opened_store.Opened
  pub between : History
  pub opens : Opens false (Ok store) old between
  pub made : Made
  pub gives : TellsOfData (file_in (node_at (tree_of between) path)) made
  pub ends : MadeEvents I W data_tx made outcome events

-- They are, or the store was not opened.
abbrev pub ProvisionEvents : Image → World → Names → Outcome → History → List Event → Type 0
ProvisionEvents I W path outcome old events = IsProvision I W path outcome events old ⊎ IsUnopened false outcome events

-- A `user-data` is a run of these events.
abbrev pub ProvisionsRun : Type 0
ProvisionsRun = (I : Image) → IsGood I → (folder : Folder) → IsImageOfFolder I folder → (W : World) (path : Names) (outcome : Outcome) (r : Option (List Run))
    (old new : History) → Begins I folder W old → IsProvided path outcome (Some old) (Some new)
    → IsRun I folder W (ProvisionEvents I W path outcome old) r r old new

-- ---- init and migrate

-- An `init` that answers is the event `Began`: the disk is at the world after it, which is paid, and what a crash at the end leaves recovers to it; a
-- crash at any
-- moment leaves no store, or what recovers to that world.
abbrev pub InitsRun : Type 0
InitsRun = (I : Image) → IsGood I → (W : World) (version : Version) (line : List ℕ) (old new : History) → IsBare W old
    → IsBegun version (Ok line) (Some old) (Some new)
    → IsBeginning I (next I W (Began version)) old new × HasBegun I (bytes_at (tree_of old)) (next I W (Began version)) new

-- What a `migrate` has moved by: the release of the image, and what its mapper kept.
pub record IsMoveBy (I : Image) (folder : Folder) (W : World) (to : Version) (old new : History) : Type 0 where
  pub release : Release
  pub mapped : List Mapped
  pub moved : HasMoved I folder W to release.transitions.items release.migrations.items (Some []) (Some mapped) old new

-- A `migrate` that answers is one event of the machine, or none where the store was at the version in format 2, crash included.
abbrev pub MigratesRun : Type 0
MigratesRun = (I : Image) → IsGood I → (folder : Folder) (W : World) (to : Version) (a a' : Option (List Question)) (line : List ℕ) (old new : History)
    → DiskAt I folder W W old → IsMigrated to a a' (Ok line) (Some old) (Some new) → IsMoveBy I folder W to old new
