-- What clauses see of a real door.
use Rattle.std.specs.Prelude.{false, is_some}
use Rattle.outside.specs.Door.{DoorState}
use Rattle.outside_real.specs.declared.door.Clients.{Clients}

-- What was accepted so far. A real door is never at its end.
abbrev pub state_of : Clients → DoorState
state_of clients = record { accepted = clients.accepted; ended = false; broken = clients.broken; busy = is_some clients.last }

-- Nothing was accepted yet.
abbrev pub unused : DoorState
unused = record { accepted = 0; ended = false; broken = false; busy = false }
