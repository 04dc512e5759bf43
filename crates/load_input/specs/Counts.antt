-- What is counted of the events of a run.
use Rattle.std.specs.Prelude.{◌+◌, Bool, true, false, nat_lt, List, [], ◌∷◌, length}
use Rattle.settings_machine.specs.World.{Image, World, is_running}
use Rattle.settings_machine.specs.Requests.{is_success}
use Rattle.settings_machine.specs.Step.{request_next, turn_next}
use Rattle.settings_machine.specs.Events.{Event, Asked, Unread, Turned, next}
use Rattle.load_input.specs.declared.counts.Counts.{Counts}

-- Nothing.
abbrev pub no_counts : Counts
no_counts = record { ok = 0; refused = 0; written = 0; runs = 0 }

-- One request more, which was answered with success or not.
abbrev pub with_reply : Bool → Counts → Counts
with_reply true n = record n { ok = n.ok + 1 }
with_reply false n = record n { refused = n.refused + 1 }

-- One turn more: a program was run, or else a file was written where the job goes on.
abbrev pub with_turn : Bool → Bool → Counts → Counts
with_turn true goes_on n = record n { runs = n.runs + 1 }
with_turn false true n = record n { written = n.written + 1 }
with_turn false false n = n

-- One event more. A request is answered with success or not, and one that is refused in reading isn't. A turn has run a program where the world has
-- one more than before; a job that does not begin again goes on after its turn where that has run a program or written a file.
abbrev pub with_event : Image → World → Event → Counts → Counts
with_event I W (Asked q o) n = with_reply (is_success (request_next I W q o).reply) n
with_event I W (Unread why) n = with_reply false n
with_event I W (Turned a) n = with_turn (nat_lt (length W.runs) (length (turn_next I W a).runs)) (is_running (turn_next I W a).job) n
with_event I W _ n = n

-- All of these events more.
abbrev pub with_events : Image → World → List Event → Counts → Counts
with_events I W [] n = n
with_events I W (e ∷ es) n = with_events I (next I W e) es (with_event I W e n)
