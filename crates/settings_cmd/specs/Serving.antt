-- What `serve` comes to, and what it makes of the machine's run.
use Rattle.std.specs.Prelude.{◌≡◌, ◌⊎◌, ◌≤◌, ℕ, Bool, true, false, List, [], Option, Result, Ok, Err, IsOk}
use Rattle.std.specs.Result.{IsErrOf}
use Rattle.outside.specs.Door.{DoorState}
use Rattle.outside.specs.Exchange.{Exchange}
use Rattle.outside.specs.History.{History}
use Rattle.outside.specs.Spawner.{Run}
use Rattle.outside.specs.Told.{Moves}
use Rattle.settings_machine.specs.World.{Image, World}
use Rattle.settings_machine.specs.Events.{Event}
use Rattle.settings_machine.specs.Paid.{IsGood}
use Rattle.machine_disk.specs.Kept.{Folder, CoreState, Kept}
use Rattle.machine_disk.specs.Ran.{Ran, RunsBy}
use Rattle.store_open.specs.Laws.{HoldsImage, IsImageOfFolder}
use Rattle.store_open.specs.Opening.{Opens}
use Rattle.store_open.specs.declared.opened.Opened.{Opened}
use Rattle.store_open.specs.declared.open_error.OpenError.{OpenError}
use Rattle.command_outcome.specs.Ends.{Outcome}
use Rattle.command_outcome.specs.declared.refusal.Refusal.TheVariants as refused
use Rattle.core_commands.specs.Carried.{core_over}
use Rattle.core_commands.specs.Handing.{not_opened}
use Rattle.api_server.specs.Causes.{FaultCounts, AreCounted}
use Rattle.api_server.specs.Rounds.{Round, AreExchanged}
use Rattle.api_core.specs.Cores.{core_state}
use Rattle.api_core.specs.declared.serving.Core.{Core}
use Rattle.api_server.specs.Serving as server
use Rattle.api_server.specs.Serving.{wanted, AreServed}
use Rattle.api_server.specs.declared.pace.Pace.{Pace}
use Rattle.event_lines.specs.Lines.{opened_line}
use Rattle.event_lines.specs.Logs.{LogState, Logs, Tells}

-- How `serve` ends once the store is open: with nothing to print, or because an accept failed.
abbrev pub served : Bool → Outcome
served true = Ok []
served false = Err refused.Door

-- No more connections were accepted than are wanted. It ended well only where so many were, or no further one comes; and `Door` is reported exactly
-- where an accept failed, which none has before.
pub record HasAccepted (connections : Option ℕ) (outcome : Outcome) (old new : DoorState) : Type 0 where
  pub most : new.accepted ≤ wanted connections
  pub all : IsOk outcome → (new.accepted ≡ wanted connections) ⊎ (new.ended ≡ true)
  pub kept : (IsErrOf outcome refused.Door → ⊥) → new.broken ≡ old.broken
  pub failed : IsErrOf outcome refused.Door → new.broken ≡ true

-- From the world in which the store is open it was logged with which version and owing what it was opened, and then each of the events; or nothing,
-- where that was ordered.
abbrev pub LogsOpened : Bool → Image → World → List Event → LogState → LogState → Type 0
LogsOpened true I W events log log_after = log_after ≡ log
LogsOpened false I W events log log_after = (between : LogState) × Tells (opened_line W.version W.held.owed) log between × Logs I W events between log_after

-- From the world in which the store is open: what boot makes, for each connection the turns before it, its request and a slice of turns, and the last turns,
-- crash included; with the bytes of each connection, and the programs that were run. What failed in the events was counted.
pub record ServesOn (I : Image) (folder : Folder) (W V : World) (boot : Bool) (pace : Pace) (quiet fine : Bool) (before : CoreState)
    (counts counts_after : FaultCounts) (told_before told_after : Option (List Exchange)) (ran_before ran_after : Option (List Run))
    (log log_after : LogState) (old new : History)
    : Type 0 where
  pub rounds : List Round
  pub events : List Event
  pub are : AreServed I pace boot fine false W rounds events
  pub exchanged : Moves told_before told_after (AreExchanged rounds)
  pub counted : AreCounted events counts counts_after
  pub now : CoreState
  pub made : Ran I folder W V events old new before now
  pub runs : RunsBy I W events ran_before ran_after
  pub logged : LogsOpened quiet I W events log log_after

-- By each image that was read with the store and that the folder makes, in each world at which the disk is with the store open.
pub record Serves (boot : Bool) (pace : Pace) (quiet fine : Bool) (store : Opened) (counts counts_after : FaultCounts)
    (told_before told_after : Option (List Exchange)) (ran_before ran_after : Option (List Run)) (log log_after : LogState) (old new : History) : Type 0 where
  pub each : (I : Image) → IsGood I → HoldsImage I store.image → (folder : Folder) → IsImageOfFolder I folder → (W V : World)
      → Kept I folder W V old (core_over store)
      → ServesOn I folder W V boot pace quiet fine (core_over store) counts counts_after told_before told_after ran_before ran_after log log_after old new

-- What comes after an opening: it is served where the opening succeeded; why it did not is reported as it is, and then no connection is
-- accepted, no program run, and nothing logged.
abbrev pub FollowsOpening : Bool → Pace → Bool → Bool → Result Opened OpenError → Outcome → FaultCounts → FaultCounts → Option (List Exchange)
    → Option (List Exchange) → Option (List Run) → Option (List Run) → LogState → LogState → Option History → Option History → Type 0
FollowsOpening boot pace quiet fine (Ok store) outcome n n' x x' r r' l l' between d' =
    (outcome ≡ served fine) × Moves between d' (Serves boot pace quiet fine store n n' x x' r r' l l')
FollowsOpening boot pace quiet fine (Err e) outcome n n' x x' r r' l l' between d' =
    (outcome ≡ Err (not_opened e)) × (d' ≡ between) × (x' ≡ x) × (r' ≡ r) × (l' ≡ l)

-- The store is opened, with boot or without, and served.
pub record IsServed (boot : Bool) (pace : Pace) (quiet : Bool) (counts counts_after : FaultCounts) (told_before told_after : Option (List Exchange))
    (ran_before ran_after : Option (List Run)) (log log_after : LogState) (outcome : Outcome) (d d' : Option History) : Type 0 where
  pub opening : Result Opened OpenError
  pub fine : Bool
  pub between : Option History
  pub opens : Moves d between (Opens boot opening)
  pub follows : FollowsOpening boot pace quiet fine opening outcome counts counts_after told_before told_after ran_before ran_after log log_after between d'

-- It ran out of memory before it began: no connection was accepted, no program run, and nothing logged.
pub record HasNotBegun (told_before told_after : Option (List Exchange)) (ran_before ran_after : Option (List Run)) (log log_after : LogState)
    (outcome : Outcome) (d d' : Option History) : Type 0 where
  pub outcome_is : outcome ≡ Err refused.Memory
  pub no_connections : told_after ≡ told_before
  pub no_runs : ran_after ≡ ran_before
  pub no_lines : log_after ≡ log
  pub same : d' ≡ d

-- The store was opened and served, or it ran out of memory before.
abbrev pub HasServed : Bool → Pace → Bool → FaultCounts → FaultCounts → Option (List Exchange) → Option (List Exchange) → Option (List Run)
    → Option (List Run) → LogState → LogState → Outcome → Option History → Option History → Type 0
HasServed boot pace quiet n n' x x' r r' l l' outcome d d' =
    IsServed boot pace quiet n n' x x' r r' l l' outcome d d' ⊎ HasNotBegun x x' r r' l l' outcome d d'

-- ---- for private clauses

-- The core of the open store is served: it is logged with which version and owing what, and then what the server does; or nothing.
abbrev pub ServesCore : Bool → Pace → Bool → Bool → Core → Core → FaultCounts → FaultCounts → Option (List Exchange) → Option (List Exchange)
    → Option (List Run) → Option (List Run) → LogState → LogState → History → History → Type 0
ServesCore boot pace true fine c now n n' x x' r r' l l' old new =
    (l' ≡ l) × (m m' : LogState) × server.Serves pace boot fine c now n n' x x' r r' m m' old new
ServesCore boot pace false fine c now n n' x x' r r' l l' old new =
    (m : LogState) × Tells (opened_line (core_state c).place.version (core_state c).held.owed) l m
    × server.Serves pace boot fine c now n n' x x' r r' m l' old new
