use Rattle.std.proofs.Common.{◌≡◌, ◌≤◌, false}
use Rattle.outside.specs.Told.{Moves}
use Rattle.event_lines.specs.Logs.{log_state}
use Rattle.api_core.specs.Cores.{IsSound}
use Rattle.api_server.specs.Answered.{ServesAll}
use Rattle.api_server.specs.Causes.{fault_counts}
use Rattle.api_server.proofs.serving.serve_all.Given as goal

abbrev pub invariant-loop-number : goal.invariant-loop-number
invariant-loop-number g l = record {
  serves : Moves (g.D.Disk.told l.initial.disk) (g.D.Disk.told l.disk)
      (ServesAll l.pace l.initial.core l.core (fault_counts (g.D.Disk.faults l.initial.disk) (g.S.Spawner.faults l.initial.spawner))
      (fault_counts (g.D.Disk.faults l.disk) (g.S.Spawner.faults l.spawner)) (g.N.Door.told l.initial.door) (g.N.Door.told l.door)
      (g.S.Spawner.runs l.initial.spawner) (g.S.Spawner.runs l.spawner)
      (log_state (g.L.Sink.told l.initial.log) (g.L.Sink.faults l.initial.log)) (log_state (g.L.Sink.told l.log) (g.L.Sink.faults l.log)));
  sound : IsSound l.core;
  idle : (g.N.Door.state l.door).busy ≡ false;
  accepted : (g.N.Door.state l.door).accepted ≡ l._number;
  kept : (g.N.Door.state l.door).broken ≡ (g.N.Door.state l.initial.door).broken;
  disk_later : g.D.Disk.faults l.initial.disk ≤ g.D.Disk.faults l.disk;
  spawner_later : g.S.Spawner.faults l.initial.spawner ≤ g.S.Spawner.faults l.spawner;
  door_later : g.N.Door.faults l.initial.door ≤ g.N.Door.faults l.door;
  asked : g.S.Spawner.asked l.spawner ≡ g.S.Spawner.asked l.initial.spawner;
}
