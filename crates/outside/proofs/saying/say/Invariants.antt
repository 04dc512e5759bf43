use Rattle.std.proofs.Common.{◌≡◌, length}
use Rattle.outside.specs.Told.{Moves}
use Rattle.outside.specs.Said.{IsSaidBefore}
use Rattle.outside.proofs.saying.say.Given as goal

abbrev pub invariant-loop-rest : goal.invariant-loop-rest
invariant-loop-rest g l = record {
  so_far : Moves (g.O.Sink.told l.initial.out) (g.O.Sink.told l.out) (IsSaidBefore l.rest l.bytes);
  kept : g.O.Sink.faults l.out ≡ g.O.Sink.faults l.initial.out;
}

abbrev pub decreases-loop-rest : goal.decreases-loop-rest
decreases-loop-rest g l = length l.rest
