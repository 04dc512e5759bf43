use Rattle.std.proofs.Common.{◌≡◌, ◌<◌, ◌≤◌, ◌-◌, [], length, vec_len}
use Rattle.outside.specs.Told.{Moves}
use Rattle.api_http.specs.Requests.{WaitsUntil}
use Rattle.api_server.specs.Reading.{IsAdded, LastIf}
use Rattle.api_server.proofs.hearing.hear.Given as goal

abbrev pub invariant-loop-bytes : goal.invariant-loop-bytes
invariant-loop-bytes g l = record {
  so_far : Moves (g.N.Door.told l.initial.door) (g.N.Door.told l.door) (LastIf (IsAdded [] l.bytes.items));
  same : g.N.Door.state l.door ≡ g.N.Door.state l.initial.door;
  kept : g.N.Door.faults l.door ≡ g.N.Door.faults l.initial.door;
  until : WaitsUntil l.bytes.items l.wanted;
  less : length l.bytes.items < l.wanted;
  most : l.wanted ≤ 1064960;
}

-- how many bytes more there may be
abbrev pub decreases-loop-bytes : goal.decreases-loop-bytes
decreases-loop-bytes g l = 1064960 - vec_len l.bytes
