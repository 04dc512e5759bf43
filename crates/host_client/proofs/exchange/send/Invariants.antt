use Rattle.std.proofs.Common.{◌≡◌, true, length}
use Rattle.outside.specs.Told.{Moves}
use Rattle.host_client.specs.Exchanges.{IsSentBefore}
use Rattle.host_client.proofs.exchange.send.Given as goal

abbrev pub invariant-loop-rest : goal.invariant-loop-rest
invariant-loop-rest g l = record {
  so_far : Moves (g.L.Link.told l.initial.link) (g.L.Link.told l.link) (IsSentBefore l.rest l.text);
  connected : g.L.Link.connected l.link ≡ true;
  kept : g.L.Link.faults l.link ≡ g.L.Link.faults l.initial.link;
}

abbrev pub decreases-loop-rest : goal.decreases-loop-rest
decreases-loop-rest g l = length l.rest
