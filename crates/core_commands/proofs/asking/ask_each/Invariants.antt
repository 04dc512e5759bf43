use Rattle.std.proofs.Common.{◌≡◌, false, take, Ok}
use Rattle.outside.specs.Told.{Moves}
use Rattle.api_core.specs.Cores.{core_state, IsSound}
use Rattle.core_commands.specs.Asking.{requests, AsksEach}
use Rattle.core_commands.proofs.asking.ask_each.Given as goal

abbrev pub invariant-loop-request : goal.invariant-loop-request
invariant-loop-request g l = record {
  asked : Moves (g.D.Disk.told l.fn.disk) (g.D.Disk.told l.disk) (AsksEach (requests (take l.request-index l.asks)) (Ok tt) l.fn.core l.core);
  sound : IsSound l.core;
  calm : (core_state l.core).faulted ≡ false;
  same : g.D.Disk.faults l.disk ≡ g.D.Disk.faults l.fn.disk;
}
