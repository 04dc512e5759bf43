-- What clauses see of a connection in memory.
use Rattle.std.specs.Prelude.{◌≡◌, ◌↔◌, ℕ, List, ◌∷◌, length, min, ◌==◌, Bool, false, IsTrue, Option, Some, None, Result, IsErr, IfOk}
use Rattle.outside.specs.Exchange.{Exchange}
use Rattle.disk_memory.specs.Plan.{one_more}
use Rattle.disk_memory.specs.Incoming.{heard_of, left_of, next_of}
use Rattle.disk_memory.specs.declared.connection.Connection.{Connection}
use Rattle.disk_memory.specs.declared.input.Input.{Input}

-- What went to and fro.
abbrev pub exchange_of : Connection → Exchange
exchange_of c = record { heard = heard_of c.incoming; left = left_of c.incoming; written = c.written.items; failed = c.failed }

-- The number is the one that is set to fail, if there is one.
abbrev pub is_number : Option ℕ → ℕ → Bool
is_number None n = false
is_number (Some k) n = k == n

-- The next read is set to fail.
abbrev pub is_read_failing : Connection → Bool
is_read_failing c = is_number c.read_fails (one_more c.reads)

-- The next write is set to fail.
abbrev pub is_write_failing : Connection → Bool
is_write_failing c = is_number c.write_fails (one_more c.writes)

-- No call was made yet, and those fail that the input names.
pub record IsPlanned (input : Input) (c : Connection) : Type 0 where
  pub reads : c.reads ≡ 0
  pub read_fails : c.read_fails ≡ input.read_fails
  pub writes : c.writes ≡ 0
  pub write_fails : c.write_fails ≡ input.write_fails

-- So many reads and writes were counted, and the calls that are to fail are those from before.
pub record IsCounted (reading writing : ℕ) (old new : Connection) : Type 0 where
  pub reads : new.reads ≡ reading
  pub read_fails : new.read_fails ≡ old.read_fails
  pub writes : new.writes ≡ writing
  pub write_fails : new.write_fails ≡ old.write_fails

-- One read more was counted.
abbrev pub CountsRead : Connection → Connection → Type 0
CountsRead old new = IsCounted (one_more old.reads) old.writes old new

-- One write more was counted.
abbrev pub CountsWrite : Connection → Connection → Type 0
CountsWrite old new = IsCounted old.reads (one_more old.writes) old new

-- The exchanges of some connections, the last of them first, after that of the last one of all.
abbrev pub after_last : Option Connection → List Exchange → List Exchange
after_last None exchanges = exchanges
after_last (Some last) exchanges = exchange_of last ∷ exchanges

-- The read fails exactly where it was set to, and else gives all that there is room for of one piece.
pub record GivesNext {E : Type 0} (room : List ℕ) (c : Connection) (result : Result ℕ E) : Type 0 where
  pub failed : IsErr result ↔ IsTrue (is_read_failing c)
  pub count : IfOk result (λ count. count ≡ min (length room) (length (next_of c.incoming)))

-- The write fails where it was set to, or because it runs out of memory, and else takes the whole piece.
pub record TakesAll {E : Type 0} (piece : List ℕ) (c : Connection) (result : Result ℕ E) : Type 0 where
  pub failed : IsTrue (is_write_failing c) → IsErr result
  pub count : IfOk result (λ count. count ≡ length piece)
