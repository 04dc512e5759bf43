use Rattle.std.proofs.Common.{◌≡◌, ◌-◌, length}
use Rattle.disk_memory.specs.Incoming.{heard_of, left_of, next_of}
use Rattle.disk_memory.proofs.incoming.Incoming.pass_over.Given as goal

abbrev pub invariant-loop-self : goal.invariant-loop-self
invariant-loop-self l = record {
  heard : heard_of l.self ≡ heard_of l.fn.self;
  left : left_of l.self ≡ left_of l.fn.self;
  next : next_of l.self ≡ next_of l.fn.self;
  pieces : l.self.pieces ≡ l.fn.self.pieces;
}

abbrev pub decreases-loop-self : goal.decreases-loop-self
decreases-loop-self l = length l.self.pieces.items - l.self.piece
