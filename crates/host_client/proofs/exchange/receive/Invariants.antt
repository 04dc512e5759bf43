use Rattle.std.proofs.Common.{◌≡◌, ◌-◌, true, vec_len}
use Rattle.outside.specs.Told.{Moves}
use Rattle.host_client.specs.Exchanges.{IsHeard}
use Rattle.host_client.proofs.exchange.receive.Given as goal

abbrev pub invariant-loop-room : goal.invariant-loop-room
invariant-loop-room g l = record {
  so_far : Moves (g.L.Link.told l.initial.link) (g.L.Link.told l.link) (IsHeard l.bytes.items);
  connected : g.L.Link.connected l.link ≡ true;
  kept : g.L.Link.faults l.link ≡ g.L.Link.faults l.initial.link;
}

-- how many bytes more are too many
abbrev pub decreases-loop-room : goal.decreases-loop-room
decreases-loop-room g l = 16777217 - vec_len l.bytes
