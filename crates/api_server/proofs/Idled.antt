-- Turns while no client is there, from their parts.
use Rattle.std.proofs.Common.{◌≡◌, ℕ, Bool, true, List, [], ◌++◌, Option, Some, arith}
use Rattle.outside.specs.History.{History}
use Rattle.outside.specs.Spawner.{Run}
use Rattle.settings_machine.specs.World.{Image, World}
use Rattle.settings_machine.specs.Events.{after}
use Rattle.settings_machine.specs.Paid.{IsGood}
use Rattle.machine_disk.specs.Kept.{Folder, Kept}
use Rattle.machine_disk.proofs.Runs.{ran_none, ran_more}
use Rattle.store_open.specs.Laws.{HoldsImage, IsImageOfFolder}
use Rattle.event_lines.specs.Logs.{LogState}
use Rattle.event_lines.proofs.Logging.{logs_none, logs_then}
use Rattle.api_core.specs.Cores.{core_state}
use Rattle.api_core.specs.declared.serving.Core.{Core}
use Rattle.api_server.specs.Causes.{FaultCounts, fault_counts}
use Rattle.api_server.specs.Turning.{Turns}
use Rattle.api_server.specs.Answered.{IdledBy, Idles}
use Rattle.api_server.proofs.Counted.{counted_none, counted_then}
use Rattle.api_server.proofs.Slices.{idle_none, idle_then, idle_turn}
use Rattle.api_server.proofs.Followed.{runs_none, runs_more}

-- Before the first turn.
pub idled_none : (while_idle : Bool) (c : Core) (d s : ℕ) (ran : Option (List Run)) (log : LogState) (h : History)
    → Idles while_idle c c (fault_counts d s) (fault_counts d s) ran ran log log h h
idled_none while_idle c d s ran log h = record { each = by } where
  by : (I : Image) → IsGood I → HoldsImage I c.image → (folder : Folder) → IsImageOfFolder I folder → (W V : World) → Kept I folder W V h (core_state c)
      → IdledBy I folder W V while_idle c c (fault_counts d s) (fault_counts d s) ran ran log log h h
  by I good of folder made W V kept = record {
    events = [];
    are = idle_none while_idle I W;
    counted = counted_none d d s s (omega arith) (omega arith);
    made = ran_none I folder W V h (core_state c) kept;
    logged = logs_none I W log;
    runs = runs_none I W ran;
    image = of;
  }

-- A turn more.
pub idled_more : (while_idle : Bool) → while_idle ≡ true → (c mid now : Core) (counts counts_mid counts_after : FaultCounts)
    (ran_before ran_mid ran_after : Option (List Run)) (log log_mid log_after : LogState) (old between new : History)
    → Idles while_idle c mid counts counts_mid ran_before ran_mid log log_mid old between
    → Turns (Some 1) mid now counts_mid counts_after ran_mid ran_after log_mid log_after between new
    → Idles while_idle c now counts counts_after ran_before ran_after log log_after old new
idled_more while_idle is c mid now counts counts_mid counts_after ran_before ran_mid ran_after log log_mid log_after old between new idles turns =
    record { each = by } where
      by : (I : Image) → IsGood I → HoldsImage I c.image → (folder : Folder) → IsImageOfFolder I folder → (W V : World) → Kept I folder W V old (core_state c)
          → IdledBy I folder W V while_idle c now counts counts_after ran_before ran_after log log_after old new
      by I good of folder made W V kept =
          let was = idles.each I good of folder made W V kept in
          let X = after I W was.events in
          let next = turns.each I good was.image folder X was.made.other was.made.kept in
          let turned = next.made.turns in
          record {
            events = was.events ++ turned.events;
            are = idle_then while_idle I W was.events turned.events was.are (idle_turn while_idle is I X turned.events turned.form);
            counted = counted_then was.events turned.events counts counts_mid counts_after was.counted next.counted;
            made = ran_more I folder W V was.events turned.events old between new (core_state c) (core_state mid) (core_state now) was.made turned.ran;
            logged = logs_then I W was.events turned.events log log_mid log_after was.logged next.logged;
            runs = runs_more I W was.events turned.events ran_before ran_mid ran_after was.runs turned.runs;
            image = next.made.image;
          }
