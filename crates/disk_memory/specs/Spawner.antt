-- What clauses see of child programs in memory.
use Rattle.std.specs.Prelude.{◌≡◌, ℕ, ◌+◌, List, [], map, take, min, slice_get, Option, Some, None, Result, IsErr, IsErrOf, IfOk}
use Rattle.outside.specs.Spawner as outside
use Rattle.outside.specs.declared.spawner.Answer.{Answer}
use Rattle.outside.specs.declared.spawner.AskErr.{AskErr}
use Rattle.outside.specs.declared.spawner.AskErr.TheVariants.{Failed}
use Rattle.disk_memory.specs.Plan.{one_more}
use Rattle.disk_memory.specs.Asked.{run_of, question_of, answer_in}
use Rattle.disk_memory.specs.declared.spawner.Run.{Run}
use Rattle.disk_memory.specs.declared.spawner.Question.{Question}
use Rattle.disk_memory.specs.declared.spawner.MemorySpawner.{MemorySpawner}

-- What the runs are to answer.
abbrev pub statuses_of : MemorySpawner → List (Option ℕ)
statuses_of spawner = spawner.statuses.items

-- What the asks are to answer.
abbrev pub answers_of : MemorySpawner → List (Option Answer)
answers_of spawner = spawner.answers.items

-- What was run, the first one first.
abbrev pub runs_of : MemorySpawner → List Run
runs_of spawner = spawner.runs.items

-- What was asked, the first one first.
abbrev pub asked_of : MemorySpawner → List Question
asked_of spawner = spawner.asked.items

-- How often it has failed.
abbrev pub spawner_faults : MemorySpawner → ℕ
spawner_faults spawner = spawner.faults

-- Child programs in memory always tell what was run,
abbrev pub told_runs : MemorySpawner → Option (List outside.Run)
told_runs spawner = Some (map run_of spawner.runs.items)

-- and what was asked.
abbrev pub told_asked : MemorySpawner → Option (List outside.Question)
told_asked spawner = Some (map question_of spawner.asked.items)

-- The status at a place of the list, None where the run is to fail, and 0 past the list.
abbrev pub status_at : Option (Option ℕ) → Option ℕ
status_at None = Some 0
status_at (Some None) = None
status_at (Some (Some status)) = Some (min status 256)

-- What the next run is to answer.
abbrev pub planned_status : MemorySpawner → Option ℕ
planned_status spawner = status_at (slice_get spawner.statuses.items spawner.run_calls)

-- The answer at a place of the list, cut after so many bytes, None where the ask is to fail, and exit status 0 with no output past the list.
abbrev pub answer_at : ℕ → Option (Option Answer) → Option (ℕ × List ℕ)
answer_at most None = Some (0, [])
answer_at most (Some None) = None
answer_at most (Some (Some answer)) = Some (min answer.status 256, take most answer.output.items)

-- What the next ask is to answer, where at most so many bytes are wanted.
abbrev pub planned_answer : MemorySpawner → ℕ → Option (ℕ × List ℕ)
planned_answer spawner most = answer_at (most + 1) (slice_get spawner.answers.items spawner.ask_calls)

-- What the runs and the asks are to answer is as before.
pub record KeepsPlans (old new : MemorySpawner) : Type 0 where
  pub statuses : statuses_of new ≡ statuses_of old
  pub answers : answers_of new ≡ answers_of old

-- The run was counted, and no ask; it failed where it was to fail, or because it ran out of memory, and else answered as planned.
pub record RunsAsPlanned {E : Type 0} (old new : MemorySpawner) (result : Result ℕ E) : Type 0 where
  pub counted : new.run_calls ≡ one_more old.run_calls
  pub asks : new.ask_calls ≡ old.ask_calls
  pub plans : KeepsPlans old new
  pub failed : planned_status old ≡ None → IsErr result
  pub status : IfOk result (λ status. planned_status old ≡ Some status)

-- The ask was counted, and no run; it failed where it was to fail, or because it ran out of memory, and else answered as planned.
pub record AsksAsPlanned (most : ℕ) (old new : MemorySpawner) (result : Result Answer AskErr) : Type 0 where
  pub counted : new.ask_calls ≡ one_more old.ask_calls
  pub runs : new.run_calls ≡ old.run_calls
  pub plans : KeepsPlans old new
  pub failed : planned_answer old most ≡ None → IsErrOf result Failed
  pub answer : IfOk result (λ answer. planned_answer old most ≡ Some (answer_in answer))
