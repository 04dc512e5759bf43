use Rattle.std.proofs.Common.{◌≡◌, length, map}
use Rattle.host_client.specs.Orders.{order_of}
use Rattle.host_client.specs.Ended.{IsAsked}
use Rattle.host_client.proofs.turns.carry_out.Given as goal

-- one question was asked over each of the links so far
abbrev pub invariant-loop-i : goal.invariant-loop-i
invariant-loop-i g l = record {
  asked : IsAsked (order_of l.command) l.replies.items (map g.L.Link.told l.initial.links) (map g.L.Link.told l.links);
  as_many : length l.replies.items ≡ l.i;
  kept : map g.L.Link.faults l.links ≡ map g.L.Link.faults l.initial.links;
}
