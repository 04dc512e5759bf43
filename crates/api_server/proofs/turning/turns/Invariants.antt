use Rattle.std.proofs.Common.{◌≡◌, ◌≤◌}
use Rattle.outside.specs.Told.{Moves}
use Rattle.affected_apply.specs.Jobs.{left_to_do}
use Rattle.event_lines.specs.Logs.{log_state}
use Rattle.api_core.specs.Cores.{core_state, IsSound}
use Rattle.api_server.specs.Causes.{fault_counts}
use Rattle.api_server.proofs.Turnings.{SoFar}
use Rattle.api_server.proofs.turning.turns.Given as goal

abbrev pub invariant-loop-core : goal.invariant-loop-core
invariant-loop-core g l = record {
  so_far : Moves (g.D.Disk.told l.initial.disk) (g.D.Disk.told l.disk)
      (SoFar l.fn.slice l.left l.initial.core l.core (fault_counts (g.D.Disk.faults l.initial.disk) (g.S.Spawner.faults l.initial.spawner))
      (fault_counts (g.D.Disk.faults l.disk) (g.S.Spawner.faults l.spawner)) (g.S.Spawner.runs l.initial.spawner) (g.S.Spawner.runs l.spawner)
      (log_state (g.L.Sink.told l.initial.log) (g.L.Sink.faults l.initial.log)) (log_state (g.L.Sink.told l.log) (g.L.Sink.faults l.log)));
  sound : IsSound l.core;
  disk_later : g.D.Disk.faults l.initial.disk ≤ g.D.Disk.faults l.disk;
  spawner_later : g.S.Spawner.faults l.initial.spawner ≤ g.S.Spawner.faults l.spawner;
  asked : g.S.Spawner.asked l.spawner ≡ g.S.Spawner.asked l.initial.spawner;
}

-- what the job has left to do
abbrev pub decreases-loop-core : goal.decreases-loop-core
decreases-loop-core g l = left_to_do l.core.image.manifest (core_state l.core).job
