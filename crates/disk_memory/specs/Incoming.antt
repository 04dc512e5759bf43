-- What clauses see of bytes that come piece by piece.
use Rattle.std.specs.Prelude.{ℕ, List}
use Rattle.disk_memory.specs.Pieces.{Pieces, before_place, from_place, next_piece}
use Rattle.disk_memory.specs.declared.incoming.Incoming.{Incoming}

-- All pieces, given or not.
abbrev pub pieces_of : Incoming → Pieces
pieces_of incoming = incoming.pieces.items

-- The bytes that were given.
abbrev pub heard_of : Incoming → List ℕ
heard_of incoming = before_place incoming.pieces.items incoming.piece incoming.offset

-- The bytes that are left.
abbrev pub left_of : Incoming → List ℕ
left_of incoming = from_place incoming.pieces.items incoming.piece incoming.offset

-- What is left of the first piece that has some bytes left.
abbrev pub next_of : Incoming → List ℕ
next_of incoming = next_piece incoming.pieces.items incoming.piece incoming.offset
