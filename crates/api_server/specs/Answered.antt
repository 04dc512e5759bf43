-- What a call makes of a core, a disk, a door, the programs that were run and the log.
use Rattle.std.specs.Prelude.{◌≡◌, ◌⊎◌, ℕ, Bool, List, ◌++◌, Option}
use Rattle.outside.specs.Exchange.{Exchange}
use Rattle.outside.specs.Door.{LastBy}
use Rattle.outside.specs.Faults.{Rose}
use Rattle.outside.specs.History.{History}
use Rattle.outside.specs.Spawner.{Run}
use Rattle.outside.specs.Told.{Moves}
use Rattle.settings_machine.specs.World.{Image, World}
use Rattle.settings_machine.specs.Requests.{Request, DiskFault}
use Rattle.settings_machine.specs.Events.{Event, after}
use Rattle.settings_machine.specs.Paid.{IsGood}
use Rattle.machine_disk.specs.Kept.{Folder, Kept}
use Rattle.machine_disk.specs.Ran.{Ran, RunsBy}
use Rattle.store_open.specs.Laws.{HoldsImage, IsImageOfFolder}
use Rattle.affected_apply.specs.Turned.{AreTurns}
use Rattle.api_http.specs.Replies.{Sent, refused}
use Rattle.api_http.specs.declared.refusal.Refusal.{Refusal}
use Rattle.api_http.specs.declared.refusal.Refusal.TheVariants as refusal
use Rattle.event_lines.specs.Lines.{refused_line}
use Rattle.event_lines.specs.Logs.{LogState, Logs, Tells}
use Rattle.api_core.specs.Cores.{core_state}
use Rattle.api_core.specs.declared.serving.Core.{Core}
use Rattle.api_server.specs.declared.pace.Pace.{Pace}
use Rattle.api_server.specs.Causes.{FaultCounts, AreCounted}
use Rattle.api_server.specs.Exchanged.{Said, Replied, IsServed, why}
use Rattle.api_server.specs.Rounds.{AsksFor, AreIdle, Round, AreRounds, AreExchanged, events_of}

-- ---- a request

-- The request of one connection, by the machine, crash included. It is replied that the disk failed only where its count rose.
pub record AnsweredBy (I : Image) (folder : Folder) (W V : World) (c now : Core) (faults faults_after : ℕ) (told told_after : Option (List Exchange))
    (log log_after : LogState) (old new : History) : Type 0 where
  pub said : Said
  pub asked : List Event
  pub asks : AsksFor I c.faulted W said asked
  pub served : Moves told told_after (LastBy (IsServed said))
  pub cause : (q : Request) → said ≡ Replied q DiskFault → Rose faults faults_after
  pub made : Ran I folder W V asked old new (core_state c) (core_state now)
  pub logged : Logs I W asked log log_after
  pub image : HoldsImage I now.image

-- By each image that the core holds, each folder whose files make it, and in each world at which disk and core are.
pub record Answers (c now : Core) (faults faults_after : ℕ) (told told_after : Option (List Exchange)) (log log_after : LogState)
    (old new : History) : Type 0 where
  pub each : (I : Image) → IsGood I → HoldsImage I c.image → (folder : Folder) → IsImageOfFolder I folder → (W V : World) → Kept I folder W V old (core_state c)
      → AnsweredBy I folder W V c now faults faults_after told told_after log log_after old new

-- ---- a connection

-- One connection, by the machine, crash included: its request, and a slice of turns after it. It is replied that the disk failed only where its count
-- rose, and what failed in its events was counted.
pub record ConnectionBy (I : Image) (folder : Folder) (W V : World) (slice : Option ℕ) (c now : Core) (counts counts_after : FaultCounts)
    (told told_after : Option (List Exchange)) (ran_before ran_after : Option (List Run)) (log log_after : LogState) (old new : History) : Type 0 where
  pub said : Said
  pub asked : List Event
  pub turned : List Event
  pub asks : AsksFor I c.faulted W said asked
  pub turns : AreTurns I slice (after I W asked) turned
  pub served : Moves told told_after (LastBy (IsServed said))
  pub cause : (q : Request) → said ≡ Replied q DiskFault → Rose counts.disk counts_after.disk
  pub counted : AreCounted (asked ++ turned) counts counts_after
  pub made : Ran I folder W V (asked ++ turned) old new (core_state c) (core_state now)
  pub logged : Logs I W (asked ++ turned) log log_after
  pub runs : RunsBy I W (asked ++ turned) ran_before ran_after
  pub image : HoldsImage I now.image

-- By each image that the core holds, each folder whose files make it, and in each world at which disk and core are.
pub record ServesOne (slice : Option ℕ) (c now : Core) (counts counts_after : FaultCounts) (told told_after : Option (List Exchange))
    (ran_before ran_after : Option (List Run)) (log log_after : LogState) (old new : History) : Type 0 where
  pub each : (I : Image) → IsGood I → HoldsImage I c.image → (folder : Folder) → IsImageOfFolder I folder → (W V : World) → Kept I folder W V old (core_state c)
      → ConnectionBy I folder W V slice c now counts counts_after told told_after ran_before ran_after log log_after old new

-- ---- while no client is there

-- Turns before the next connection, by the machine, crash included; what failed in them was counted.
pub record IdledBy (I : Image) (folder : Folder) (W V : World) (while_idle : Bool) (c now : Core) (counts counts_after : FaultCounts)
    (ran_before ran_after : Option (List Run)) (log log_after : LogState) (old new : History) : Type 0 where
  pub events : List Event
  pub are : AreIdle while_idle I W events
  pub counted : AreCounted events counts counts_after
  pub made : Ran I folder W V events old new (core_state c) (core_state now)
  pub logged : Logs I W events log log_after
  pub runs : RunsBy I W events ran_before ran_after
  pub image : HoldsImage I now.image

-- By each image that the core holds, each folder whose files make it, and in each world at which disk and core are.
pub record Idles (while_idle : Bool) (c now : Core) (counts counts_after : FaultCounts) (ran_before ran_after : Option (List Run)) (log log_after : LogState)
    (old new : History) : Type 0 where
  pub each : (I : Image) → IsGood I → HoldsImage I c.image → (folder : Folder) → IsImageOfFolder I folder → (W V : World) → Kept I folder W V old (core_state c)
      → IdledBy I folder W V while_idle c now counts counts_after ran_before ran_after log log_after old new

-- ---- connections one after another

-- Connections one after another, and the turns while no further client was there, by the machine, crash included; what failed in their events was counted.
pub record RoundsBy (I : Image) (folder : Folder) (W V : World) (pace : Pace) (c now : Core) (counts counts_after : FaultCounts)
    (told told_after : Option (List Exchange)) (ran_before ran_after : Option (List Run)) (log log_after : LogState) (old new : History) : Type 0 where
  pub rounds : List Round
  pub idle : List Event
  pub are : AreRounds I pace c.faulted W rounds
  pub idles : AreIdle pace.while_idle I (after I W (events_of rounds)) idle
  pub exchanged : Moves told told_after (AreExchanged rounds)
  pub counted : AreCounted (events_of rounds ++ idle) counts counts_after
  pub made : Ran I folder W V (events_of rounds ++ idle) old new (core_state c) (core_state now)
  pub logged : Logs I W (events_of rounds ++ idle) log log_after
  pub runs : RunsBy I W (events_of rounds ++ idle) ran_before ran_after
  pub image : HoldsImage I now.image

-- By each image that the core holds, each folder whose files make it, and in each world at which disk and core are.
pub record ServesAll (pace : Pace) (c now : Core) (counts counts_after : FaultCounts) (told told_after : Option (List Exchange))
    (ran_before ran_after : Option (List Run)) (log log_after : LogState) (old new : History) : Type 0 where
  pub each : (I : Image) → IsGood I → HoldsImage I c.image → (folder : Folder) → IsImageOfFolder I folder → (W V : World) → Kept I folder W V old (core_state c)
      → RoundsBy I folder W V pace c now counts counts_after told told_after ran_before ran_after log log_after old new

-- ---- for private clauses

-- A refusal is replied and logged; or there was no memory for its reply, and nothing is logged.
abbrev pub IsTold : Refusal → Sent → LogState → LogState → Type 0
IsTold r sent log log_after = ((sent ≡ refused r) × Tells (refused_line (why r)) log log_after) ⊎ ((sent ≡ refused refusal.Memory) × (log_after ≡ log))
