use Rattle.std.proofs.Common.{◌≡◌, false, []}
use Rattle.outside.specs.Told.{Moves}
use Rattle.api_core.specs.Cores.{core_state, IsSound}
use Rattle.load_input.specs.Counted.{ran, Counted}
use Rattle.load_input.proofs.driving.drive.Given as goal

-- the turns so far
abbrev pub invariant-loop-turn : goal.invariant-loop-turn
invariant-loop-turn g l = record {
  counted : Moves (g.D.Disk.told l.initial.disk) (g.D.Disk.told l.disk)
      (Counted [] l.initial.core l.core l.initial.counts l.counts (ran l.initial.spawner) (ran l.spawner));
  sound : IsSound l.core;
  calm : (core_state l.core).faulted ≡ false;
  ok : l.counts.ok ≡ l.initial.counts.ok;
  refused : l.counts.refused ≡ l.initial.counts.refused;
}
