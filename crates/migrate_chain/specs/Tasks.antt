-- What there is to do on the way from one version to another, and what was done of it.
use Rattle.std.specs.Prelude.{◌≡◌, ℕ, Bool, true, false, List, [], ◌∷◌, ◌++◌, map, flat_map, reverse, string_bytes, Option, Some, None, option_map, Ok, Err, ⊤}
use Rattle.migrate_helpers.specs.Mapped.{after_step}
use Rattle.migrate_helpers.specs.Step.{Step, forward_step, backward_step}
use Rattle.migrate_helpers.specs.declared.map_error.MapError.TheVariants as map_error
use Rattle.settings_tree.specs.declared.held.Held.{Held}
use Rattle.release_file.specs.declared.work.Work.{Work}
use Rattle.release_file.specs.declared.work.Work.TheVariants.{Plain, Program}
use Rattle.release_file.specs.declared.work.Named.{Named}
use Rattle.release_file.specs.declared.transition.Transition.{Transition}
use Rattle.migrate_chain.specs.declared.task_error.TaskError.{TaskError}
use Rattle.migrate_chain.specs.declared.task_error.TaskError.TheVariants.{Conflict, Status, BadAnswer, Failed, Memory}
use Rattle.release_file.specs.Release.{work_of}

-- What a migration does: a mapping forward and one back, or a program.
pub data Deed : Type 0 where
  mapping : Step → Step → Deed
  program : List (List ℕ) → Deed

abbrev pub deed_of : Work → Deed
deed_of (Plain migration) = mapping (forward_step migration) (backward_step migration)
deed_of (Program words) = program (map string_bytes words.items)

-- A migration that is to be carried out, forward or back.
pub record Task : Type 0 where
  pub name : List ℕ
  pub deed : Deed
  pub back : Bool

abbrev pub task_of : List ℕ → Work → Bool → Task
task_of name work back = record { name = name; deed = deed_of work; back = back }

-- What a mapping does forward, or back.
abbrev pub step_in : Step → Step → Bool → Step
step_in forward backward false = forward
step_in forward backward true = backward

-- What may be made of an input: a mapping is a function, and a program may make anything.
abbrev pub MakesBy : Deed → Bool → Held → Held → Type 0
MakesBy (mapping forward backward) back held made = after_step (step_in forward backward back) held ≡ Ok made
MakesBy (program words) back held made = ⊤

-- What a task may make of an input.
abbrev pub Makes : Task → Held → Held → Type 0
Makes task held made = MakesBy task.deed task.back held made

-- What a mapping may be refused for: the conflict of its function, or out of memory.
abbrev pub RefusesStep : Step → Held → TaskError → Type 0
RefusesStep step held (Conflict key) = after_step step held ≡ Err (map_error.Conflict key)
RefusesStep step held (Status name number) = ⊥
RefusesStep step held (BadAnswer name) = ⊥
RefusesStep step held (Failed name) = ⊥
RefusesStep step held Memory = ⊤

-- What may be refused of an input; a program may be refused for anything.
abbrev pub RefusesBy : Deed → Bool → Held → TaskError → Type 0
RefusesBy (mapping forward backward) back held error = RefusesStep (step_in forward backward back) held error
RefusesBy (program words) back held error = ⊤

-- What a task may be refused for.
abbrev pub Refuses : Task → Held → TaskError → Type 0
Refuses task held error = RefusesBy task.deed task.back held error

-- A task that was carried out.
pub record Mapped : Type 0 where
  pub task : Task
  pub input : Held
  pub output : Held

-- A task that was refused.
pub record Refused : Type 0 where
  pub task : Task
  pub input : Held
  pub refusal : TaskError

-- A list, where one is kept, with more after it.
abbrev pub with_more : {T : Type 0} → Option (List T) → List T → Option (List T)
with_more log more = option_map (λ entries. entries ++ more) log

-- What is noted of an error: a refusal is, and a failure and out of memory are not.
abbrev pub refusals_of : Task → Held → TaskError → List Refused
refusals_of task held (Conflict key) = record { task = task; input = held; refusal = Conflict key } ∷ []
refusals_of task held (Status name number) = record { task = task; input = held; refusal = Status name number } ∷ []
refusals_of task held (BadAnswer name) = record { task = task; input = held; refusal = BadAnswer name } ∷ []
refusals_of task held (Failed name) = []
refusals_of task held Memory = []

-- The error has the name of the migration, if it has one.
abbrev pub Names : List ℕ → TaskError → Type 0
Names name (Conflict key) = ⊤
Names name (Status at number) = at ≡ name
Names name (BadAnswer at) = at ≡ name
Names name (Failed at) = at ≡ name
Names name Memory = ⊤

-- ---- the tasks of a way

-- The names of a step in the order in which they are carried out: as listed, and on the way back in reverse order.
abbrev pub names_in_order : Bool → List (List ℕ) → List (List ℕ)
names_in_order false names = names
names_in_order true names = reverse names

-- The task with this work, if there is any.
abbrev pub task_with : Bool → List ℕ → Option Work → List Task
task_with back name None = []
task_with back name (Some work) = task_of name work back ∷ []

-- The task of this name, which the release has.
abbrev pub task_in : List Named → Bool → List ℕ → List Task
task_in migrations back name = task_with back name (work_of migrations name)

-- The tasks of a step.
abbrev pub tasks_in : List Named → Bool → Transition → List Task
tasks_in migrations back t = flat_map (task_in migrations back) (names_in_order back t.names.items)

-- The tasks of the steps of a way, one after another.
abbrev pub tasks_of : List Named → Bool → List Transition → List Task
tasks_of migrations back way = flat_map (tasks_in migrations back) way

-- These tasks were carried out, one after another: the first on what is held, and each other on what the one before it made. A mapping made what its
-- function gives.
abbrev pub AreDone : List Task → Held → List Mapped → Held → Type 0
AreDone [] held [] made = made ≡ held
AreDone [] held (m ∷ ms) made = ⊥
AreDone (t ∷ ts) held [] made = ⊥
AreDone (t ∷ ts) held (m ∷ ms) made = (m.task ≡ t) × (m.input ≡ held) × Makes t m.input m.output × AreDone ts m.output ms made
