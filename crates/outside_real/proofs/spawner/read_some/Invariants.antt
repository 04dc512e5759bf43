use Rattle.std.proofs.Common.{◌≤◌, length}
use Rattle.outside_real.proofs.spawner.read_some.Given as goal

abbrev pub invariant-loop : goal.invariant-loop
invariant-loop g l = length l.kept.items ≤ l.wanted
