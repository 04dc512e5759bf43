-- What each job began with and ran, over a run of the machine.
use Rattle.std.specs.Prelude.{◌≡◌, ◌≢◌, ◌⊎◌, ℕ, Bool, true, false, List, [], ◌∷◌, ◌++◌}
use Rattle.outside.specs.Spawner.{Run}
use Rattle.settings_tree.specs.declared.entry.Owed.{Owed}
use Rattle.metadata_links.specs.Links.{commands_of}
use Rattle.settings_machine.specs.World.{Image, World, Work, Job, Idle, Failed, Running, is_running}
use Rattle.settings_machine.specs.Step.{Fine, Command}
use Rattle.settings_machine.specs.Events.{Event, Turned, next, after}

-- ---- the jobs of a run

-- A job is going on, or has done all, or was broken off.
pub data Ending : Type 0 where
  Going : Ending
  Done : Ending
  Broken : Ending

-- A job: what was owed when it began, the programs that it ran, and its state.
pub record Course : Type 0 where
  pub owed : Owed
  pub ran : List Run
  pub ending : Ending

-- The program that is run where no file is left, but a command is.
abbrev pub run_at : ℕ → List (List ℕ) → List Command → List Run
run_at status [] (c ∷ cs) = record { words = c.1.1; status = status } ∷ []
run_at status _ _ = []

-- Whether nothing is left to do.
abbrev pub has_none : List (List ℕ) → List Command → Bool
has_none [] [] = true
has_none _ _ = false

-- The program that an event of a job runs, if it runs one.
abbrev pub run_of : Event → Job → List Run
run_of (Turned (Fine status)) (Running w) = run_at status w.files w.commands
run_of _ _ = []

-- Whether the event is the last turn of a job that has done all.
abbrev pub is_last : Event → Job → Bool
is_last (Turned (Fine status)) (Running w) = has_none w.files w.commands
is_last _ _ = false

-- The state of a job after an event that was its last turn or not, by the job that is there then.
abbrev pub ending_of : Bool → Job → Ending
ending_of true job = Done
ending_of false Idle = Broken
ending_of false (Failed cause) = Broken
ending_of false (Running w) = Going

-- The newest job, if one is running, has run these programs too, and is in this state.
abbrev pub followed : Bool → List Run → Ending → List Course → List Course
followed true runs ending (c ∷ cs) = record { owed = c.owed; ran = c.ran ++ runs; ending = ending } ∷ cs
followed _ runs ending cs = cs

-- A job begins where one runs, and none did or the one that did was done.
abbrev pub begun_by : Job → Job → Bool → Owed → List Course → List Course
begun_by Idle (Running w) last o cs = record { owed = o; ran = []; ending = Going } ∷ cs
begun_by (Failed cause) (Running w) last o cs = record { owed = o; ran = []; ending = Going } ∷ cs
begun_by (Running v) (Running w) true o cs = record { owed = o; ran = []; ending = Going } ∷ cs
begun_by _ _ last o cs = cs

-- The jobs so far, the newest first, where one job became another by an event, with this owed then.
abbrev pub courses_by : Event → Job → Job → Owed → List Course → List Course
courses_by e old new o cs = begun_by old new (is_last e old) o (followed (is_running old) (run_of e old) (ending_of (is_last e old) new) cs)

-- The jobs after an event.
abbrev pub next_courses : Image → World → Event → List Course → List Course
next_courses I W e cs = courses_by e W.job (next I W e).job (next I W e).held.owed cs

-- The jobs of a run, after those before it, the newest first.
abbrev pub courses : Image → World → List Event → List Course → List Course
courses I W [] cs = cs
courses I W (e ∷ es) cs = courses I (next I W e) es (next_courses I W e cs)

-- All programs that the jobs ran, the first ones first.
abbrev pub runs_in : List Course → List Run
runs_in [] = []
runs_in (c ∷ cs) = runs_in cs ++ c.ran

-- ---- the law

-- Each command was run once, in this order, with exit status 0.
abbrev pub RunsAll : List Command → List Run → Type 0
RunsAll [] [] = Unit {0}
RunsAll [] (r ∷ rs) = ⊥
RunsAll (c ∷ cs) [] = ⊥
RunsAll (c ∷ cs) (r ∷ rs) = (r.words ≡ c.1.1) × (r.status ≡ 0) × RunsAll cs rs

-- The first of the commands were run, in this order, up to and including the first whose status wasn't 0.
abbrev pub RunsInOrder : List Command → List Run → Type 0
RunsInOrder cs [] = Unit {0}
RunsInOrder [] (r ∷ rs) = ⊥
RunsInOrder (c ∷ cs) (r ∷ rs) = (r.words ≡ c.1.1) × (((r.status ≡ 0) × RunsInOrder cs rs) ⊎ ((r.status ≢ 0) × (rs ≡ [])))

-- A job that has done all ran all commands of what was owed, and one that was broken off ran the first of them.
abbrev pub EndsWith : Ending → List Command → List Run → Type 0
EndsWith Going all ran = ⊥
EndsWith Done all ran = RunsAll all ran
EndsWith Broken all ran = RunsInOrder all ran

-- The job has ended, and ran the commands of the services that the owed keys affect as said.
abbrev pub HasEnded : Image → Course → Type 0
HasEnded I c = EndsWith c.ending (commands_of I.manifest c.owed) c.ran

-- All of the jobs have.
abbrev pub HaveEnded : Image → List Course → Type 0
HaveEnded I [] = Unit {0}
HaveEnded I (c ∷ cs) = HasEnded I c × HaveEnded I cs

-- The job is going on: it ran all commands but those that it still has to do.
pub record IsGoing (I : Image) (w : Work) (c : Course) : Type 0 where
  pub going : c.ending ≡ Going
  pub done : List Command
  pub whole : commands_of I.manifest c.owed ≡ done ++ w.commands
  pub ran : RunsAll done c.ran

-- All jobs have ended, but for the newest where one is running.
abbrev pub IsHistoryOf : Image → Job → List Course → Type 0
IsHistoryOf I Idle cs = HaveEnded I cs
IsHistoryOf I (Failed cause) cs = HaveEnded I cs
IsHistoryOf I (Running w) [] = ⊥
IsHistoryOf I (Running w) (c ∷ cs) = IsGoing I w c × HaveEnded I cs

-- Over the run all programs that are run are those of its jobs, and each job runs the commands of the services that what was owed
-- when it began affects, in order.
pub record RunInOrder (I : Image) (W : World) (events : List Event) : Type 0 where
  pub history : IsHistoryOf I (after I W events).job (courses I W events [])
  pub runs : (after I W events).runs ≡ W.runs ++ runs_in (courses I W events [])

-- The law of restarts: each run that begins without a job is such.
abbrev pub JobsRunInOrder : Type 0
JobsRunInOrder = (I : Image) (W : World) → is_running W.job ≡ false → (events : List Event) → RunInOrder I W events
