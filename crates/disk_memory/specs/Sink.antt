-- What clauses see of a sink in memory.
use Rattle.std.specs.Prelude.{ℕ, ◌-◌, List, length, min}
use Rattle.disk_memory.specs.declared.sink.MemorySink.{MemorySink}

-- The bytes that it took.
abbrev pub written_of : MemorySink → List ℕ
written_of sink = sink.written.items

-- How many bytes it takes before it fails.
abbrev pub limit_of : MemorySink → ℕ
limit_of sink = sink.limit

-- How often it has failed.
abbrev pub sink_faults : MemorySink → ℕ
sink_faults sink = sink.faults

-- As many bytes of a piece as it still takes.
abbrev pub room_for : MemorySink → List ℕ → ℕ
room_for sink piece = min (length piece) (limit_of sink - length (written_of sink))
