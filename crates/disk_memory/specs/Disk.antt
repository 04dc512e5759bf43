-- What clauses see of a disk in memory.
use Rattle.std.specs.Prelude.{◌≡◌, ℕ, false, Option, Some}
use Rattle.outside.specs.History.{History}
use Rattle.disk_memory.specs.Recorded.{recorded}
use Rattle.disk_memory.specs.declared.disk.MemoryDisk.{MemoryDisk}
use Rattle.disk_memory.specs.declared.record.Record.{Record}
use Rattle.disk_memory.specs.Plan.{fails_at}
use Rattle.disk_memory.specs.declared.plan.Plan.{Plan}

-- The history that the record tells.
abbrev pub told_by : Record → History
told_by kept = recorded kept.began kept.changes.items

-- What the disk went through.
abbrev pub history_of : MemoryDisk → History
history_of disk = told_by disk.record

-- Its calls so far, and those that are to fail.
abbrev pub plan_of : MemoryDisk → Plan
plan_of disk = disk.plan

-- No call was made yet, and none is set to fail.
pub record IsFresh (plan : Plan) : Type 0 where
  pub calls : plan.calls ≡ 0
  pub faults : plan.faults ≡ 0
  pub none : (n : ℕ) → fails_at plan n ≡ false

-- A disk in memory always tells.
abbrev pub told : MemoryDisk → Option History
told disk = Some (history_of disk)

-- How often it has failed.
abbrev pub faults : MemoryDisk → ℕ
faults disk = disk.plan.faults
