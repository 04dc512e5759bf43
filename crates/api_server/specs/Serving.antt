-- A whole run over an opened store.
use Rattle.std.specs.Prelude.{◌≡◌, ◌⊎◌, ◌≤◌, ◌-◌, ◌^◌, ℕ, Bool, true, false, List, [], ◌++◌, Option, Some, None}
use Rattle.outside.specs.Door.{DoorState}
use Rattle.outside.specs.Exchange.{Exchange}
use Rattle.outside.specs.History.{History}
use Rattle.outside.specs.Spawner.{Run}
use Rattle.outside.specs.Told.{Moves}
use Rattle.settings_machine.specs.World.{Image, World}
use Rattle.settings_machine.specs.Requests.{Reply, Apply}
use Rattle.settings_machine.specs.Events.{Event, after, faulted_after}
use Rattle.settings_machine.specs.Paid.{IsGood}
use Rattle.machine_disk.specs.Kept.{Folder, Kept}
use Rattle.machine_disk.specs.Ran.{Ran, IsDriven, RunsBy}
use Rattle.store_open.specs.Laws.{HoldsImage, IsImageOfFolder}
use Rattle.affected_apply.specs.Turned.{AreTurns}
use Rattle.event_lines.specs.Logs.{LogState, Logs}
use Rattle.api_core.specs.Cores.{core_state}
use Rattle.api_core.specs.declared.serving.Core.{Core}
use Rattle.api_server.specs.declared.pace.Pace.{Pace}
use Rattle.api_server.specs.Causes.{FaultCounts, AreCounted}
use Rattle.api_server.specs.Rounds.{IsAsked, AreIdle, Round, AreRounds, AreExchanged, events_of}

-- How many connections are to be accepted: where no number is given as many as a door may accept.
abbrev pub wanted : Option ℕ → ℕ
wanted None = 2 ^ 32 - 1
wanted (Some n) = n

-- No more than that were accepted. It ended well where so many were, or no further one comes; and else an accept failed, which none has before.
pub record HasAccepted (connections : Option ℕ) (fine : Bool) (old new : DoorState) : Type 0 where
  pub most : new.accepted ≤ wanted connections
  pub all : fine ≡ true → (new.accepted ≡ wanted connections) ⊎ (new.ended ≡ true)
  pub kept : fine ≡ true → new.broken ≡ old.broken
  pub failed : fine ≡ false → new.broken ≡ true

-- ---- the beginning

-- The request `Apply`, and a slice of turns.
pub record AreBegun (I : Image) (slice : Option ℕ) (faulted : Bool) (W : World) (events : List Event) : Type 0 where
  pub asked : List Event
  pub turned : List Event
  pub whole : events ≡ asked ++ turned
  pub reply : Reply
  pub request : IsAsked I faulted W Apply reply asked
  pub turns : AreTurns I slice (after I W asked) turned

-- With boot they are made, and else nothing.
abbrev pub AreBooted : Bool → Image → Option ℕ → Bool → World → List Event → Type 0
AreBooted true I slice faulted W events = AreBegun I slice faulted W events
AreBooted false I slice faulted W events = events ≡ []

-- By the machine, crash included; what failed in the events was counted.
pub record BootedBy (I : Image) (folder : Folder) (W V : World) (boot : Bool) (slice : Option ℕ) (c now : Core) (counts counts_after : FaultCounts)
    (ran_before ran_after : Option (List Run)) (log log_after : LogState) (old new : History) : Type 0 where
  pub events : List Event
  pub are : AreBooted boot I slice c.faulted W events
  pub counted : AreCounted events counts counts_after
  pub made : Ran I folder W V events old new (core_state c) (core_state now)
  pub logged : Logs I W events log log_after
  pub runs : RunsBy I W events ran_before ran_after
  pub image : HoldsImage I now.image

-- By each image that the core holds, each folder whose files make it, and in each world at which disk and core are.
pub record Boots (boot : Bool) (slice : Option ℕ) (c now : Core) (counts counts_after : FaultCounts) (ran_before ran_after : Option (List Run))
    (log log_after : LogState) (old new : History) : Type 0 where
  pub each : (I : Image) → IsGood I → HoldsImage I c.image → (folder : Folder) → IsImageOfFolder I folder → (W V : World) → Kept I folder W V old (core_state c)
      → BootedBy I folder W V boot slice c now counts counts_after ran_before ran_after log log_after old new

-- ---- the end

-- Turns until no job runs, unless an accept failed.
abbrev pub AreLast : Bool → Image → World → List Event → Type 0
AreLast true I W last = IsDriven I W last
AreLast false I W last = last ≡ []

-- By the machine, crash included; what failed in the events was counted.
pub record EndedBy (I : Image) (folder : Folder) (W V : World) (fine : Bool) (c now : Core) (counts counts_after : FaultCounts)
    (ran_before ran_after : Option (List Run)) (log log_after : LogState) (old new : History) : Type 0 where
  pub events : List Event
  pub are : AreLast fine I W events
  pub counted : AreCounted events counts counts_after
  pub made : Ran I folder W V events old new (core_state c) (core_state now)
  pub logged : Logs I W events log log_after
  pub runs : RunsBy I W events ran_before ran_after
  pub image : HoldsImage I now.image

-- By each image that the core holds, each folder whose files make it, and in each world at which disk and core are.
pub record Ends (fine : Bool) (c now : Core) (counts counts_after : FaultCounts) (ran_before ran_after : Option (List Run)) (log log_after : LogState)
    (old new : History) : Type 0 where
  pub each : (I : Image) → IsGood I → HoldsImage I c.image → (folder : Folder) → IsImageOfFolder I folder → (W V : World) → Kept I folder W V old (core_state c)
      → EndedBy I folder W V fine c now counts counts_after ran_before ran_after log log_after old new

-- ---- the whole

-- The events: what boot makes, the connections one after another, the turns while no further client was there, and the last turns.
pub record AreServed (I : Image) (pace : Pace) (boot fine faulted : Bool) (W : World) (rounds : List Round) (events : List Event) : Type 0 where
  pub booted : List Event
  pub idle : List Event
  pub last : List Event
  pub whole : events ≡ booted ++ ((events_of rounds ++ idle) ++ last)
  pub boots : AreBooted boot I pace.slice faulted W booted
  pub are : AreRounds I pace (faulted_after faulted booted) (after I W booted) rounds
  pub idles : AreIdle pace.while_idle I (after I (after I W booted) (events_of rounds)) idle
  pub ends : AreLast fine I (after I (after I W booted) (events_of rounds ++ idle)) last

-- By the machine, crash included; what failed in the events was counted.
pub record ServedBy (I : Image) (folder : Folder) (W V : World) (pace : Pace) (boot fine : Bool) (c now : Core) (counts counts_after : FaultCounts)
    (told told_after : Option (List Exchange)) (ran_before ran_after : Option (List Run)) (log log_after : LogState) (old new : History) : Type 0 where
  pub rounds : List Round
  pub events : List Event
  pub are : AreServed I pace boot fine c.faulted W rounds events
  pub exchanged : Moves told told_after (AreExchanged rounds)
  pub counted : AreCounted events counts counts_after
  pub made : Ran I folder W V events old new (core_state c) (core_state now)
  pub logged : Logs I W events log log_after
  pub runs : RunsBy I W events ran_before ran_after
  pub image : HoldsImage I now.image

-- By each image that the core holds, each folder whose files make it, and in each world at which disk and core are.
pub record Serves (pace : Pace) (boot fine : Bool) (c now : Core) (counts counts_after : FaultCounts) (told told_after : Option (List Exchange))
    (ran_before ran_after : Option (List Run)) (log log_after : LogState) (old new : History) : Type 0 where
  pub each : (I : Image) → IsGood I → HoldsImage I c.image → (folder : Folder) → IsImageOfFolder I folder → (W V : World) → Kept I folder W V old (core_state c)
      → ServedBy I folder W V pace boot fine c now counts counts_after told told_after ran_before ran_after log log_after old new
