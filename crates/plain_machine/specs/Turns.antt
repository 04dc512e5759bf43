-- What the parts of a turn make of the world, in the machine's words.
use Rattle.std.specs.Prelude.{◌≡◌, ℕ, Bool, not, ◌&&◌, List, [], ◌∷◌, if◌then◌else◌}
use Rattle.settings_tree.specs.declared.entry.Owed.{Owed}
use Rattle.template_eval.specs.Rendered.{Rendered}
use Rattle.settings_tree.specs.declared.entry.Owed.TheVariants as owed
use Rattle.settings_machine.specs.declared.cause.Cause.{Cause}
use Rattle.settings_machine.specs.declared.cause.Cause.TheVariants as cause
use Rattle.settings_machine.specs.World.{Key, Image, World, Work, Job, Idle, Failed, Running, owes_none}
use Rattle.settings_machine.specs.Step as machine
use Rattle.plain_machine.specs.Steps.{HoldsImage, answer_of}
use Rattle.plain_machine.specs.Worlds.{world_of}
use Rattle.plain_machine.specs.declared.image.PlainImage.{PlainImage}
use Rattle.plain_machine.specs.declared.machine.PlainMachine.{PlainMachine}
use Rattle.plain_machine.specs.declared.todo.Todo.{Todo}
use Rattle.plain_machine.specs.declared.todo.Todo.TheVariants as todo
use Rattle.plain_machine.specs.declared.turn_answer.TurnAnswer.{TurnAnswer}
use Rattle.plain_machine.specs.declared.turn_answer.TurnAnswer.TheVariants as answer

-- ---- what is to be done next

-- The first file that a job is still to write.
pub record IsFirstFile (w : Work) (file : List ℕ) : Type 0 where
  pub more : List (List ℕ)
  pub files : w.files ≡ file ∷ more

-- No file is left, and this is the first command that a job is still to run.
pub record IsFirstCommand (w : Work) (service : List ℕ) (words : List (List ℕ)) : Type 0 where
  pub index : ℕ
  pub more : List machine.Command
  pub files : w.files ≡ []
  pub commands : w.commands ≡ (service, (index, words)) ∷ more

-- Nothing is left, these keys were noted, and the job was asked for again or not.
pub record IsAtEnd (w : Work) (since : List Key) (again : Bool) : Type 0 where
  pub files : w.files ≡ []
  pub commands : w.commands ≡ []
  pub since_is : w.since ≡ since
  pub again_is : w.again ≡ again

-- A running job is to do this next.
abbrev pub IsTodo : Work → Todo → Type 0
IsTodo w (todo.File file) = IsFirstFile w file
IsTodo w (todo.Command service words) = IsFirstCommand w service words.items
IsTodo w (todo.End since again) = IsAtEnd w since again

-- ---- what is made of it

-- Why a turn that came to this fails the job, where it says no more.
abbrev pub fault_of : TurnAnswer → Cause
fault_of answer.NoRoom = cause.Memory
fault_of (answer.Fine status) = cause.Disk
fault_of (answer.FileFault left) = cause.Disk
fault_of answer.NoSpawn = cause.Disk
fault_of answer.SyncFault = cause.Disk
fault_of (answer.OwedFault stored) = cause.Disk

-- The file, which was the first, is written or refused, as it renders.
abbrev pub IsWritten : PlainImage → PlainMachine → List ℕ → Rendered → PlainMachine → Type 0
IsWritten image old file r new = (I : Image) (w : Work) (more : List (List ℕ)) → HoldsImage I image → (world_of old).job ≡ Running w → w.files ≡ file ∷ more
    → world_of new ≡ machine.wrote I (world_of old) file more w r

-- The file was the first, and its turn was made.
abbrev pub IsFileTurn : PlainImage → PlainMachine → List ℕ → TurnAnswer → PlainMachine → Type 0
IsFileTurn image old file answer new = (I : Image) (w : Work) (more : List (List ℕ)) → HoldsImage I image → (world_of old).job ≡ Running w
    → w.files ≡ file ∷ more
    → world_of new ≡ machine.file_turn I (world_of old) file more w (answer_of answer)

-- The command was the first, and ran.
abbrev pub IsCommandRun : PlainMachine → List ℕ → List (List ℕ) → ℕ → PlainMachine → Type 0
IsCommandRun old service words status new = (w : Work) (index : ℕ) (more : List machine.Command) → (world_of old).job ≡ Running w
    → w.commands ≡ (service, (index, words)) ∷ more → world_of new ≡ machine.ran (world_of old) (service, (index, words)) more w status

-- The command was the first, and its turn was made.
abbrev pub IsCommandTurn : PlainMachine → List ℕ → List (List ℕ) → TurnAnswer → PlainMachine → Type 0
IsCommandTurn old service words answer new = (w : Work) (index : ℕ) (more : List machine.Command) → (world_of old).job ≡ Running w
    → w.commands ≡ (service, (index, words)) ∷ more → world_of new ≡ machine.command_turn (world_of old) (service, (index, words)) more w (answer_of answer)

-- The job that rests, or begins again where it was asked for again and something is owed.
abbrev pub resting_job : Image → Owed → Bool → Job
resting_job I owed again = if again && not (owes_none owed) then machine.begun I owed else Idle

-- The world in which what was noted could not be stored as what is owed, or was stored all the same.
abbrev pub unrested : World → List Key → Bool → World
unrested W since stored = record W { held = record W.held { owed = if stored then owed.Keys since else W.held.owed }; job = Failed cause.Disk }

-- Nothing was left, and the last turn was made.
abbrev pub IsLastTurn : PlainImage → PlainMachine → List Key → Bool → TurnAnswer → PlainMachine → Type 0
IsLastTurn image old since again answer new = (I : Image) (w : Work) → HoldsImage I image → w.since ≡ since → w.again ≡ again
    → world_of new ≡ machine.last_turn I (world_of old) w (answer_of answer)
