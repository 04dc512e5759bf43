-- Turns of the job of a core.
use Rattle.std.specs.Prelude.{ℕ, List, Option}
use Rattle.outside.specs.History.{History}
use Rattle.outside.specs.Spawner.{Run}
use Rattle.settings_machine.specs.World.{Image, World}
use Rattle.settings_machine.specs.Paid.{IsGood}
use Rattle.machine_disk.specs.Kept.{Folder, Kept}
use Rattle.store_open.specs.Laws.{HoldsImage}
use Rattle.affected_apply.specs.Turned.{AreEvents}
use Rattle.api_core.specs.Cores.{core_state}
use Rattle.api_core.specs.declared.serving.Core.{Core}

-- The call makes these turns of the machine, and the core holds the image still.
pub record IsTurned (I : Image) (folder : Folder) (W V : World) (slice : Option ℕ) (c now : Core) (ran_before ran_after : Option (List Run)) (old new : History)
    : Type 0 where
  pub turns : AreEvents I folder W V slice (core_state c) (core_state now) ran_before ran_after old new
  pub image : HoldsImage I now.image

-- By each image that the core holds, in each world at which disk and core are, the turns are a slice of the machine's, on the disk,
-- in the core and in the programs that were run, crash included.
pub record Turns (c : Core) (slice : Option ℕ) (now : Core) (ran_before ran_after : Option (List Run)) (old new : History) : Type 0 where
  pub each : (I : Image) → IsGood I → HoldsImage I c.image → (folder : Folder) (W V : World) → Kept I folder W V old (core_state c)
      → IsTurned I folder W V slice c now ran_before ran_after old new
