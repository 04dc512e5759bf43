use Rattle.std.proofs.Common.{◌≡◌, ◌+◌, false, take}
use Rattle.outside.specs.Told.{Moves}
use Rattle.settings_machine.specs.World.{Idle}
use Rattle.api_core.specs.Cores.{core_state, IsSound}
use Rattle.load_input.specs.Counted.{ran, Counted}
use Rattle.load_input.proofs.serving.serve.Given as goal

-- the requests so far
abbrev pub invariant-loop-request : goal.invariant-loop-request
invariant-loop-request g l = record {
  counted : Moves (g.D.Disk.told l.initial.disk) (g.D.Disk.told l.disk)
      (Counted (take l.request-index l.requests) l.initial.core l.core l.initial.counts l.counts (ran l.initial.spawner) (ran l.spawner));
  sound : IsSound l.core;
  calm : (core_state l.core).faulted ≡ false;
  still : (core_state l.core).job ≡ Idle;
  all : l.counts.ok + l.counts.refused ≡ l.initial.counts.ok + l.initial.counts.refused + l.request-index;
}
