-- One call of a job, as one turn of the machine.
use Rattle.std.specs.Prelude.{◌≡◌, ◌⊎◌, ℕ, Bool, true, false, List, [], ◌∷◌, Option}
use Rattle.outside.specs.Names.{Names}
use Rattle.outside.specs.Tree.{Node, file_in}
use Rattle.outside.specs.History.{History, next, scribbled, synced}
use Rattle.outside.specs.Spawner.{Run}
use Rattle.outside.specs.Told.{Moves}
use Rattle.settings_machine.specs.World.{Image, World, Files, Work, Job, Running, Failed, path_of}
use Rattle.settings_machine.specs.Step.{Answer, with_file, fits_work, turn_next}
use Rattle.settings_machine.specs.Events.{is_disk_fault}
use Rattle.settings_machine.specs.declared.cause.Cause.TheVariants as cause
use Rattle.affected_apply.specs.declared.outcome.Turn.{Turn}
use Rattle.affected_apply.specs.declared.outcome.Turn.TheVariants as turn
use Rattle.affected_apply.specs.declared.view.View.{View}
use Rattle.affected_apply.specs.Sees.{Sees}

-- The job after a turn that left this to do.
abbrev pub job_left : Turn → Work → Job
job_left (turn.Failed c) w = Failed c
job_left _ w = Running w

-- Whether the turn failed with Disk.
abbrev pub fails_with_disk : Turn → Bool
fails_with_disk (turn.Failed cause.Disk) = true
fails_with_disk _ = false

-- The path has this node on the disk, and the node's bytes among the configuration files.
pub record PutsFile (path : Names) (before after : Files) (old new : History) : Type 0 where
  pub node : Option Node
  pub on_disk : new ≡ next (scribbled path node) old
  pub files : after ≡ with_file before path (file_in node)

-- The disk and the configuration files are left alone, or both have something else at the path of the first of the files to do.
abbrev pub MakesFiles : Image → List (List ℕ) → Files → Files → History → History → Type 0
MakesFiles I [] before after old new = (after ≡ before) × (new ≡ old)
MakesFiles I (f ∷ fs) before after old new = ((after ≡ before) × (new ≡ old)) ⊎ PutsFile (path_of I f) before after old new

-- For some answer of the outside, which fits it, this is the machine's turn: the next world has the job that is left, the disk has its
-- configuration files, and the programs that were run are its own; nothing else changes. The answer is a fault of the disk
-- where the turn failed with Disk.
pub record IsOneTurn (I : Image) (W : World) (w : Work) (t : Turn) (left : Work) (ran_before ran_after : Option (List Run)) (old new : History) : Type 0 where
  pub answer : Answer
  pub fitting : fits_work answer w.files w.commands ≡ true
  pub fault : is_disk_fault answer ≡ fails_with_disk t
  pub etc : Files
  pub runs : List Run
  pub is : turn_next I W answer ≡ record W { job = job_left t left; etc = etc; runs = runs }
  pub disk : MakesFiles I w.files W.etc etc old new
  pub spawner : Moves ran_before ran_after (λ r s. r ≡ W.runs → s ≡ runs)

-- A call is one turn of the machine; one that has nothing left to do syncs the disk, which begins the last turn.
abbrev pub MakesTurn : Image → World → Work → Turn → Work → Option (List Run) → Option (List Run) → History → History → Type 0
MakesTurn I W w turn.Done left ran_before ran_after old new = new ≡ next synced old
MakesTurn I W w t left ran_before ran_after old new = IsOneTurn I W w t left ran_before ran_after old new

-- The same in each world that has this job and these live settings, of each image that the view is of.
abbrev pub IsMachineTurn : View → Work → Turn → Work → Option (List Run) → Option (List Run) → History → History → Type 0
IsMachineTurn view w t left ran_before ran_after old new = (I : Image) (W : World) → Sees I view → W.job ≡ Running w → W.held.live ≡ view.live.now
    → MakesTurn I W w t left ran_before ran_after old new
