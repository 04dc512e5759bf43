-- What the calls make of the world, in the machine's words.
use Rattle.std.specs.Prelude.{◌≡◌, List, Option, Some, None, false, not, find}
use Rattle.settings_tree.specs.declared.held.Held.{Held}
use Rattle.pending_tx.specs.Transactions.{is_held, rising}
use Rattle.version_links.specs.declared.version.Version.{Version}
use Rattle.settings_machine.specs.World.{Key, Image, is_running}
use Rattle.settings_machine.specs.JobSeen.{job_seen}
use Rattle.settings_machine.specs.Requests.{Request, Reply}
use Rattle.settings_machine.specs.Seen.{Holds}
use Rattle.settings_machine.specs.Step as machine
use Rattle.settings_machine.specs.Events.{Asked, Turned, Moved, Forgot, next}
use Rattle.plain_machine.specs.Worlds.{world_of}
use Rattle.plain_machine.specs.declared.image.PlainImage.{PlainImage}
use Rattle.plain_machine.specs.declared.machine.PlainMachine.{PlainMachine}
use Rattle.plain_machine.specs.declared.turn_answer.TurnAnswer.{TurnAnswer}
use Rattle.plain_machine.specs.declared.turn_answer.TurnAnswer.TheVariants as answer

-- The parts are those of the image.
abbrev pub HoldsImage : Image → PlainImage → Type 0
HoldsImage I image = Holds I image.types image.os image.defaults image.manifest image.templates image.text

-- What the outside lets a turn come to.
abbrev pub answer_of : TurnAnswer → machine.Answer
answer_of (answer.Fine status) = machine.Fine status
answer_of answer.NoRoom = machine.NoRoom
answer_of (answer.FileFault left) = machine.FileFault left
answer_of answer.NoSpawn = machine.NoSpawn
answer_of answer.SyncFault = machine.SyncFault
answer_of (answer.OwedFault stored) = machine.OwedFault stored

-- The request led to the next world, and was answered as the machine replies.
pub record IsAsked (image : PlainImage) (old : PlainMachine) (q : Request) (new : PlainMachine) (reply : Reply) : Type 0 where
  pub world : (I : Image) → HoldsImage I image → world_of new ≡ next I (world_of old) (Asked q machine.Answered)
  pub says : (I : Image) → HoldsImage I image → (machine.request_next I (world_of old) q machine.Answered).reply ≡ reply

-- One turn of the job was made.
abbrev pub IsTurned : PlainImage → PlainMachine → TurnAnswer → PlainMachine → Type 0
IsTurned image old answer new = (I : Image) → HoldsImage I image → world_of new ≡ next I (world_of old) (Turned (answer_of answer))

-- The store was moved to a version, with what is held there.
abbrev pub IsMoved : PlainMachine → Version → Held → PlainMachine → Type 0
IsMoved old version held new = (I : Image) → world_of new ≡ next I (world_of old) (Moved version held)

-- Nothing changed where a key has no value; where each has one the keys were forgotten, in a world in which no job runs.
abbrev pub Forgets : PlainMachine → List Key → PlainMachine → Option Key → Type 0
Forgets old keys new (Some unheld) = world_of new ≡ world_of old
Forgets old keys new None = is_running (job_seen old.job) ≡ false → (I : Image) → world_of new ≡ next I (world_of old) (Forgot (rising keys))

-- What is told is the first of the keys that has no value, live or pending, if there is one; and the keys are forgotten where there is none.
abbrev pub IsForgotten : PlainMachine → List Key → PlainMachine → Option Key → Type 0
IsForgotten old keys new told = (told ≡ find (λ k. not (is_held old.held k)) keys) × Forgets old keys new told
