-- Which configuration files a job touches, and what is written before its commands are run.
use Rattle.std.specs.Prelude.{◌≡◌, ◌⊎◌, ℕ, false, true, List, [], ◌∷◌}
use Rattle.std.specs.FinMap.{get}
use Rattle.outside.specs.Names.{Names}
use Rattle.settings_tree.specs.declared.entry.Owed.{Owed}
use Rattle.settings_tree.specs.declared.entry.Owed.TheVariants.{Keys}
use Rattle.metadata_links.specs.Links.{files_of}
use Rattle.settings_machine.specs.World.{Among, Image, World, Work, Running, is_running, path_of}
use Rattle.settings_machine.specs.Events.{Event, after, are_served}
use Rattle.settings_machine.specs.Covered.{IsCovered}
use Rattle.settings_machine.specs.Paid.{IsCurrent, IsFit, IsGood}
use Rattle.settings_machine.specs.Jobs.{Course, courses}

-- The path is that of a file of what is owed.
pub record IsPathFor (I : Image) (o : Owed) (path : Names) : Type 0 where
  pub file : List ℕ
  pub listed : Among (files_of I.manifest o) file
  pub path_is : path ≡ path_of I file

-- One of the jobs may touch the path: it is that of a file of what was owed when the job began.
pub record IsJobPath (I : Image) (jobs : List Course) (path : Names) : Type 0 where
  pub job : Course
  pub among : Among jobs job
  pub path_for : IsPathFor I job.owed path

-- Over each run that begins without a job, a path has its old bytes, or nothing as before, unless one of the run's jobs may touch it.
abbrev pub JobsTouchTheirFiles : Type 0
JobsTouchTheirFiles = (I : Image) (W : World) → is_running W.job ≡ false → (events : List Event) (path : Names)
    → (get (after I W events).etc path ≡ get W.etc path) ⊎ IsJobPath I (courses I W events []) path

-- When a job has no file left, and so at each command that it runs, each covered file of what was owed when the job began is what its
-- template renders to, or it is one of those of the keys that were changed since.
abbrev pub FilesComeFirst : Type 0
FilesComeFirst = (I : Image) → IsGood I → (W : World) → IsFit I W → is_running W.job ≡ false → (events : List Event) → are_served events ≡ true
    → (w : Work) → (after I W events).job ≡ Running w → w.files ≡ []
    → (job : Course) (before : List Course) → courses I W events [] ≡ job ∷ before
    → (f : List ℕ) → IsCovered I f → Among (files_of I.manifest job.owed) f
    → IsCurrent I (after I W events) f ⊎ Among (files_of I.manifest (Keys w.since)) f
