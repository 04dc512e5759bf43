-- What a command over an open store comes to, and what it makes of the machine's run.
use Rattle.std.specs.Prelude.{◌≡◌, ◌⊎◌, ℕ, Bool, false, if◌then◌else◌, List, [], ◌∷◌, ◌++◌, Option, Result, Ok, Err, codes, map}
use Rattle.outside.specs.History.{History}
use Rattle.outside.specs.Spawner.{Run}
use Rattle.outside.specs.Told.{Moves}
use Rattle.json_trees.specs.declared.pending.Pending.{Pending}
use Rattle.json_trees.specs.declared.pending.Pending.TheVariants as pending
use Rattle.json_trees.specs.declared.scalar.Scalar.{Scalar}
use Rattle.settings_machine.specs.World.{Key, Image, World, Job, Idle, Failed}
use Rattle.settings_machine.specs.Requests as machine
use Rattle.settings_machine.specs.Requests.{Request, DropTx, Patch, Apply, ApplyAll, CommitAndApply, Reply, NoMemory, DiskFault}
use Rattle.settings_machine.specs.Events.{Event, after}
use Rattle.settings_machine.specs.Paid.{IsGood}
use Rattle.settings_machine.specs.declared.cause.Cause.TheVariants as cause
use Rattle.machine_disk.specs.Kept.{Folder, CoreState, Kept}
use Rattle.machine_disk.specs.Ran.{Ran, IsDriven, RunsBy}
use Rattle.store_open.specs.Laws.{HoldsImage}
use Rattle.store_open.specs.Opening.{Opens}
use Rattle.store_open.specs.declared.opened.Opened.{Opened}
use Rattle.store_open.specs.declared.open_error.OpenError.{OpenError}
use Rattle.command_outcome.specs.declared.refusal.Refusal.{Refusal}
use Rattle.command_outcome.specs.declared.refusal.Refusal.TheVariants as refused
use Rattle.api_core.specs.Cores.{core_state}
use Rattle.api_core.specs.declared.serving.Core.{Core}
use Rattle.core_commands.specs.Asking.{Succeeds, Stops}
use Rattle.core_commands.specs.Handing.{not_opened}

-- ---- the requests of commands

-- The transaction of the command `set`.
abbrev pub set_tx : List ℕ
set_tx = codes "cli-set"

-- Each value is to be set.
abbrev pub puts_of : List (Key × Scalar) → List (Key × Pending)
puts_of pairs = map (λ p. (p.0, pending.Put p.1)) pairs

-- `set` drops its transaction, patches it, commits it and applies.
abbrev pub set_requests : List (Key × Scalar) → List Request
set_requests pairs = DropTx set_tx ∷ Patch set_tx (puts_of pairs) ∷ CommitAndApply set_tx ∷ []

-- `apply` applies what is owed, or owes all and applies it.
abbrev pub apply_requests : Bool → List Request
apply_requests all = (if all then ApplyAll else Apply) ∷ []

-- ---- what a command comes to, once the store is open

-- The requests stop at one that got this reply, and no turn is made.
pub record HasStopped (I : Image) (W : World) (qs : List Request) (reply : Reply) (asked turned : List Event) : Type 0 where
  pub stops : Stops I W qs reply asked
  pub no_turns : turned ≡ []

-- All requests are answered with success, turns are made until no job runs, and then this is the job.
pub record HasEnded (I : Image) (W : World) (qs : List Request) (job : Job) (asked turned : List Event) : Type 0 where
  pub succeeds : Succeeds I W qs asked
  pub driven : IsDriven I (after I W asked) turned
  pub job_is : (after I (after I W asked) turned).job ≡ job

-- It ran out of memory: for a request, for a turn, or to tell how the job ended.
abbrev pub LacksMemory : Image → World → List Request → List Event → List Event → Type 0
LacksMemory I W qs asked turned = HasStopped I W qs NoMemory asked turned ⊎ ((job : Job) × HasEnded I W qs job asked turned)

-- What it comes to, by its events: all requests and all turns with an idle job at the end, and this is reported of the last world; or why not.
abbrev pub Comes : {T : Type 0} → Image → World → List Request → (World → T → Type 0) → Result T Refusal → List Event → List Event → Type 0
Comes I W qs Tells (Ok said) asked turned = HasEnded I W qs Idle asked turned × Tells (after I (after I W asked) turned) said
Comes I W qs Tells (Err (refused.Refused refusal)) asked turned = HasStopped I W qs (machine.Refused refusal) asked turned
Comes I W qs Tells (Err (refused.Spawn name)) asked turned = HasEnded I W qs (Failed (cause.Spawn name)) asked turned
Comes I W qs Tells (Err (refused.Render file error)) asked turned = HasEnded I W qs (Failed (cause.Render file error)) asked turned
Comes I W qs Tells (Err (refused.Status service number)) asked turned = HasEnded I W qs (Failed (cause.Status service number)) asked turned
Comes I W qs Tells (Err refused.Disk) asked turned = HasStopped I W qs DiskFault asked turned ⊎ HasEnded I W qs (Failed cause.Disk) asked turned
Comes I W qs Tells (Err refused.Memory) asked turned = LacksMemory I W qs asked turned
Comes I W qs Tells (Err _) asked turned = ⊥

-- ---- the whole of it

-- The core holds what the world holds, in which the job is idle.
abbrev pub HoldsAll : World → Core → Type 0
HoldsAll W c = (W.held ≡ (core_state c).held) × (W.job ≡ Idle)

-- A core over a store that was just opened: no job runs.
abbrev pub core_over : Opened → CoreState
core_over store = record { place = store.place; held = store.held; job = Idle; faulted = false }

-- The core is over this store, which was just opened.
pub record IsOver (c : Core) (store : Opened) : Type 0 where
  pub state : core_state c ≡ core_over store
  pub image : c.image ≡ store.image

-- From W, where the store is open, requests are asked and turns made, crash included, and it comes to this.
pub record Follows {T : Type 0} (I : Image) (folder : Folder) (W V : World) (qs : List Request) (Tells : World → T → Type 0) (result : Result T Refusal)
    (before : CoreState)
    (ran_before ran_after : Option (List Run)) (old new : History) : Type 0 where
  pub asked : List Event
  pub turned : List Event
  pub comes : Comes I W qs Tells result asked turned
  pub now : CoreState
  pub made : Ran I folder W V (asked ++ turned) old new before now
  pub runs : RunsBy I W (asked ++ turned) ran_before ran_after

-- By each image that was read with the store, in each world at which the disk is with the store open.
pub record GoesOn {T : Type 0} (qs : List Request) (Tells : World → T → Type 0) (store : Opened) (result : Result T Refusal)
    (ran_before ran_after : Option (List Run))
    (old new : History) : Type 0 where
  pub each : (I : Image) → IsGood I → HoldsImage I store.image → (folder : Folder) (W V : World) → Kept I folder W V old (core_over store)
      → Follows I folder W V qs Tells result (core_over store) ran_before ran_after old new

-- What comes after an opening: requests and turns where it succeeded; why it did not is reported as it is, and then nothing more is done.
abbrev pub FollowsOpening : {T : Type 0} → List Request → (World → T → Type 0) → Result Opened OpenError → Result T Refusal → Option (List Run)
    → Option (List Run)
    → Option History → Option History → Type 0
FollowsOpening qs Tells (Ok store) result ran_before ran_after between told_after = Moves between told_after (GoesOn qs Tells store result ran_before ran_after)
FollowsOpening qs Tells (Err e) result ran_before ran_after between told_after = (result ≡ Err (not_opened e)) × (told_after ≡ between)
    × (ran_after ≡ ran_before)

-- The store is opened, without boot; requests are asked, and turns made until no job runs.
pub record CarriesOut {T : Type 0} (qs : List Request) (Tells : World → T → Type 0) (result : Result T Refusal) (ran_before ran_after : Option (List Run))
    (told_before told_after : Option History) : Type 0 where
  pub opening : Result Opened OpenError
  pub between : Option History
  pub opens : Moves told_before between (Opens false opening)
  pub follows : FollowsOpening qs Tells opening result ran_before ran_after between told_after

-- It ran out of memory before it began.
pub record HasNotBegun {T : Type 0} (result : Result T Refusal) (ran_before ran_after : Option (List Run)) (told_before told_after : Option History) : Type
    0 where
  pub result_is : result ≡ Err refused.Memory
  pub no_runs : ran_after ≡ ran_before
  pub same : told_after ≡ told_before

-- The command was carried out, or it ran out of memory before it began.
abbrev pub Carried : {T : Type 0} → List Request → (World → T → Type 0) → Result T Refusal → Option (List Run) → Option (List Run) → Option History
    → Option History → Type 0
Carried qs Tells result ran_before ran_after told_before told_after =
    CarriesOut qs Tells result ran_before ran_after told_before told_after ⊎ HasNotBegun result ran_before ran_after told_before told_after
