-- Which failures of the devices are among the events of a server, and that the devices have counted them.
use Rattle.std.specs.Prelude.{ℕ, ◌+◌, ◌-◌, ◌^◌, ◌≤◌, min, Bool, true, false, List, [], ◌∷◌}
use Rattle.settings_machine.specs.Step.{Faulted, NoSpawn}
use Rattle.settings_machine.specs.Events.{Event, Asked, Turned, is_disk_fault}

-- Whether a call of the disk failed in the event: in a request or in a turn of the job.
abbrev pub fails_disk : Event → Bool
fails_disk (Asked q (Faulted taken)) = true
fails_disk (Turned a) = is_disk_fault a
fails_disk _ = false

-- Whether a program could not be run in the event.
abbrev pub fails_to_spawn : Event → Bool
fails_to_spawn (Turned NoSpawn) = true
fails_to_spawn _ = false

-- One more, where it is so.
abbrev pub one_more : Bool → ℕ → ℕ
one_more true n = n + 1
one_more false n = n

-- How many of the events are such.
abbrev pub count_of : (Event → Bool) → List Event → ℕ
count_of p [] = 0
count_of p (e ∷ es) = one_more (p e) (count_of p es)

-- How often the disk and the spawner have failed.
pub record FaultCounts : Type 0 where
  pub disk : ℕ
  pub spawner : ℕ

-- These two.
abbrev pub fault_counts : ℕ → ℕ → FaultCounts
fault_counts disk spawner = record { disk = disk; spawner = spawner }

-- The count rose by so much at least, or it is at its last value.
abbrev pub RoseBy : ℕ → ℕ → ℕ → Type 0
RoseBy n before now = min (before + n) (2 ^ 64 - 1) ≤ now

-- Each event in which the disk failed, and each in which a program could not be run, raised the count of that device. So where a count is as
-- before, no such event is among them.
pub record AreCounted (events : List Event) (before now : FaultCounts) : Type 0 where
  pub disk : RoseBy (count_of fails_disk events) before.disk now.disk
  pub spawner : RoseBy (count_of fails_to_spawn events) before.spawner now.spawner
