-- What clauses see of a link in memory.
use Rattle.std.specs.Prelude.{◌≡◌, ◌↔◌, ℕ, Bool, false, IsTrue, Option, Some, None, Result, IsErr}
use Rattle.outside.specs.Exchange.{Exchange}
use Rattle.disk_memory.specs.Plan.{one_more}
use Rattle.disk_memory.specs.Connection.{exchange_of, is_number}
use Rattle.disk_memory.specs.declared.connection.Connection.{Connection}
use Rattle.disk_memory.specs.declared.link.MemoryLink.{MemoryLink}

-- What went to and fro.
abbrev pub exchange_of_link : MemoryLink → Exchange
exchange_of_link link = exchange_of link.connection

-- A link in memory always tells.
abbrev pub told : MemoryLink → Option Exchange
told link = Some (exchange_of_link link)

-- The next connect is set to fail.
abbrev pub is_connect_failing : MemoryLink → Bool
is_connect_failing link = is_number link.connect_fails (one_more link.connects)

-- The same link, whose connect with this number fails.
abbrev pub failing_at : ℕ → MemoryLink → MemoryLink
failing_at number link = record link { connect_fails = Some number }

-- Whether it has connected.
abbrev pub is_connected : MemoryLink → Bool
is_connected link = link.connected

-- How often it has failed.
abbrev pub link_faults : MemoryLink → ℕ
link_faults link = link.faults

-- Its connection.
abbrev pub connection_of : MemoryLink → Connection
connection_of link = link.connection

-- No call was made yet, and no connect is set to fail.
pub record IsUnused (link : MemoryLink) : Type 0 where
  pub connected : is_connected link ≡ false
  pub faults : link_faults link ≡ 0
  pub connects : link.connects ≡ 0
  pub failing : link.connect_fails ≡ None

-- The connects that were counted are those from before, and so is the one that is to fail.
pub record KeepsConnects (old new : MemoryLink) : Type 0 where
  pub connects : new.connects ≡ old.connects
  pub failing : new.connect_fails ≡ old.connect_fails

-- The connect was counted, failed exactly where it was set to, and left the connection as it was.
pub record CountsConnect {E : Type 0} (old new : MemoryLink) (result : Result Unit E) : Type 0 where
  pub counted : new.connects ≡ one_more old.connects
  pub failing : new.connect_fails ≡ old.connect_fails
  pub connection : connection_of new ≡ connection_of old
  pub failed : IsErr result ↔ IsTrue (is_connect_failing old)
