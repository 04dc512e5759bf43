-- For private clauses: turns of the job of a core, each of which is logged.
use Rattle.std.specs.Prelude.{ℕ, List, Option}
use Rattle.outside.specs.History.{History}
use Rattle.outside.specs.Spawner.{Run}
use Rattle.settings_machine.specs.World.{Image, World}
use Rattle.settings_machine.specs.Paid.{IsGood}
use Rattle.machine_disk.specs.Kept.{Folder, Kept}
use Rattle.store_open.specs.Laws.{HoldsImage}
use Rattle.event_lines.specs.Logs.{LogState, Logs}
use Rattle.api_core.specs.Cores.{core_state}
use Rattle.api_core.specs.Turned.{IsTurned}
use Rattle.api_core.specs.declared.serving.Core.{Core}
use Rattle.api_server.specs.Causes.{FaultCounts, AreCounted}

-- The call makes these turns of the machine, counts what failed in them, and logs them.
pub record TurnsBy (I : Image) (folder : Folder) (W V : World) (slice : Option ℕ) (c now : Core) (counts counts_after : FaultCounts)
    (ran_before ran_after : Option (List Run)) (log log_after : LogState) (old new : History) : Type 0 where
  pub made : IsTurned I folder W V slice c now ran_before ran_after old new
  pub counted : AreCounted made.turns.events counts counts_after
  pub logged : Logs I W made.turns.events log log_after

-- By each image that the core holds, in each world at which disk and core are.
pub record Turns (slice : Option ℕ) (c now : Core) (counts counts_after : FaultCounts) (ran_before ran_after : Option (List Run)) (log log_after : LogState)
    (old new : History) : Type 0 where
  pub each : (I : Image) → IsGood I → HoldsImage I c.image → (folder : Folder) (W V : World) → Kept I folder W V old (core_state c)
      → TurnsBy I folder W V slice c now counts counts_after ran_before ran_after log log_after old new
