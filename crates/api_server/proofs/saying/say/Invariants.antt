use Rattle.std.proofs.Common.{◌≡◌, length}
use Rattle.outside.specs.Told.{Moves}
use Rattle.api_server.specs.Reading.{LastIf}
use Rattle.api_server.specs.Saying.{IsSaidBefore}
use Rattle.api_server.proofs.saying.say.Given as goal

abbrev pub invariant-loop-taken : goal.invariant-loop-taken
invariant-loop-taken g l = record {
  so_far : Moves (g.N.Door.told l.initial.door) (g.N.Door.told l.door) (LastIf (IsSaidBefore l.rest l.bytes));
  same : g.N.Door.state l.door ≡ g.N.Door.state l.initial.door;
  kept : g.N.Door.faults l.door ≡ g.N.Door.faults l.initial.door;
}

abbrev pub decreases-loop-taken : goal.decreases-loop-taken
decreases-loop-taken g l = length l.rest
