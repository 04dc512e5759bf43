use Rattle.std.proofs.Common.{◌≡◌, ◌≤◌}
use Rattle.outside.specs.Told.{Moves}
use Rattle.event_lines.specs.Logs.{log_state}
use Rattle.api_core.specs.Cores.{IsSound}
use Rattle.api_server.specs.Answered.{Idles}
use Rattle.api_server.specs.Causes.{fault_counts}
use Rattle.api_server.proofs.idling.idle.Given as goal

abbrev pub invariant-loop-turn : goal.invariant-loop-turn
invariant-loop-turn g l = record {
  idles : Moves (g.D.Disk.told l.initial.disk) (g.D.Disk.told l.disk)
      (Idles l.while_idle l.initial.core l.core (fault_counts (g.D.Disk.faults l.initial.disk) (g.S.Spawner.faults l.initial.spawner))
      (fault_counts (g.D.Disk.faults l.disk) (g.S.Spawner.faults l.spawner)) (g.S.Spawner.runs l.initial.spawner) (g.S.Spawner.runs l.spawner)
      (log_state (g.L.Sink.told l.initial.log) (g.L.Sink.faults l.initial.log)) (log_state (g.L.Sink.told l.log) (g.L.Sink.faults l.log)));
  sound : IsSound l.core;
  same : g.N.Door.state l.door ≡ g.N.Door.state l.initial.door;
  told : g.N.Door.told l.door ≡ g.N.Door.told l.initial.door;
  disk_later : g.D.Disk.faults l.initial.disk ≤ g.D.Disk.faults l.disk;
  spawner_later : g.S.Spawner.faults l.initial.spawner ≤ g.S.Spawner.faults l.spawner;
  door_faults : g.N.Door.faults l.door ≡ g.N.Door.faults l.initial.door;
  asked : g.S.Spawner.asked l.spawner ≡ g.S.Spawner.asked l.initial.spawner;
}
