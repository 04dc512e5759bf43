-- What clauses see of a door in memory.
use Rattle.std.specs.Prelude.{◌≡◌, ◌≢◌, ℕ, List, [], ◌∷◌, map, reverse, length, Bool, true, false, IsTrue, Option, Some, None, Result, Ok, IsErr}
use Rattle.outside.specs.Exchange.{Exchange, fresh}
use Rattle.outside.specs.Door.{DoorState}
use Rattle.outside.specs.declared.disk_error.Failed.{Failed}
use Rattle.disk_memory.specs.Plan.{one_more}
use Rattle.disk_memory.specs.Pieces.{joined}
use Rattle.disk_memory.specs.Connection.{exchange_of, after_last, is_number, GivesNext, TakesAll, IsPlanned, CountsRead, CountsWrite}
use Rattle.disk_memory.specs.declared.input.Input.{Input}
use Rattle.disk_memory.specs.declared.connection.Connection.{Connection}
use Rattle.disk_memory.specs.declared.door.MemoryDoor.{MemoryDoor}

-- The connections that are still to come, the next one first.
abbrev pub inputs_of : MemoryDoor → List Input
inputs_of door = reverse door.waiting.items

-- What went to and fro on each accepted connection, the last one first.
abbrev pub exchanges_of : MemoryDoor → List Exchange
exchanges_of door = after_last door.last (reverse (map exchange_of door.before.items))

-- A door in memory always tells.
abbrev pub told : MemoryDoor → Option (List Exchange)
told door = Some (exchanges_of door)

-- What was accepted so far.
abbrev pub state : MemoryDoor → DoorState
state door = record { accepted = length (exchanges_of door); ended = door.ended; broken = door.broken; busy = door.busy }

-- How often it has failed.
abbrev pub door_faults : MemoryDoor → ℕ
door_faults door = door.faults

-- The same door, whose accept with this number fails.
abbrev pub failing_at : ℕ → MemoryDoor → MemoryDoor
failing_at number door = record door { accept_fails = Some number }

-- The next accept is set to fail.
abbrev pub is_accept_failing : MemoryDoor → Bool
is_accept_failing door = is_number door.accept_fails (one_more door.accepts)

-- No call was made yet, and no accept is set to fail.
pub record IsUnused (door : MemoryDoor) : Type 0 where
  pub exchanges : exchanges_of door ≡ []
  pub state : state door ≡ record { accepted = 0; ended = false; broken = false; busy = false }
  pub faults : door_faults door ≡ 0
  pub accepts : door.accepts ≡ 0
  pub failing : door.accept_fails ≡ None

-- The accept was counted and fails where it was set to; it takes the next connection, with all of its bytes to come, and is false only where none is left.
pub record TakesInput (old new : MemoryDoor) (result : Result Bool Failed) : Type 0 where
  pub counted : new.accepts ≡ one_more old.accepts
  pub failed : IsTrue (is_accept_failing old) → IsErr result
  pub failing : new.accept_fails ≡ old.accept_fails
  pub next : result ≡ Ok true → (input : Input) × (connection : Connection) × (inputs_of old ≡ input ∷ inputs_of new) × (new.last ≡ Some connection)
      × IsPlanned input connection
      × (exchanges_of new ≡ fresh (joined input.pieces.items) ∷ exchanges_of old)
  pub none : result ≡ Ok false → inputs_of old ≡ []
  pub same : result ≢ Ok true → inputs_of new ≡ inputs_of old

-- The connections that are still to come are those from before, and so are the accepts that were counted and the one that is to fail.
pub record KeepsWaiting (old new : MemoryDoor) : Type 0 where
  pub inputs : inputs_of new ≡ inputs_of old
  pub accepts : new.accepts ≡ old.accepts
  pub failing : new.accept_fails ≡ old.accept_fails

-- The read is the next one of the last connection, and was counted there.
pub record ReadsLast {E : Type 0} (room : List ℕ) (old new : MemoryDoor) (result : Result ℕ E) : Type 0 where
  pub before : Connection
  pub now : Connection
  pub old_is : old.last ≡ Some before
  pub new_is : new.last ≡ Some now
  pub reads : GivesNext room before result
  pub counted : CountsRead before now

-- The write is the next one of the last connection, and was counted there.
pub record WritesLast {E : Type 0} (piece : List ℕ) (old new : MemoryDoor) (result : Result ℕ E) : Type 0 where
  pub before : Connection
  pub now : Connection
  pub old_is : old.last ≡ Some before
  pub new_is : new.last ≡ Some now
  pub writes : TakesAll piece before result
  pub counted : CountsWrite before now
