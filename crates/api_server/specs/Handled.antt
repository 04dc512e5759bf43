-- A request, with the opening that comes before it.
use Rattle.std.specs.Prelude.{◌≡◌, ◌≢◌, ◌⊎◌, ◌≤◌, ⊤, ℕ, List, [], ◌∷◌, true, false, Option, Err}
use Rattle.outside.specs.Faults.{Rose}
use Rattle.outside.specs.History.{History}
use Rattle.outside.specs.PathText.{joined}
use Rattle.outside.specs.Told.{Moves}
use Rattle.key_names.specs.Key.{printed}
use Rattle.api_http.specs.Replies.{Sent, refused, is_of_success}
use Rattle.api_http.specs.Says.{Says}
use Rattle.api_http.specs.declared.refusal.Refusal.TheVariants as refusal
use Rattle.settings_machine.specs.World.{Image, World}
use Rattle.settings_machine.specs.Requests as machine
use Rattle.settings_machine.specs.Requests.{Request, is_reading}
use Rattle.settings_machine.specs.Step.{Outcome, request_next}
use Rattle.settings_machine.specs.Events.{Event, Asked}
use Rattle.settings_machine.specs.Paid.{IsGood}
use Rattle.machine_answers.specs.Replies.{reply_of}
use Rattle.machine_answers.specs.declared.answer.Answer.{Answer}
use Rattle.machine_disk.specs.Kept.{Folder, CoreState, Kept}
use Rattle.machine_disk.specs.Ran as ran
use Rattle.machine_disk.specs.Ran.{Ran, Reopens}
use Rattle.store_open.specs.Laws.{HoldsImage, IsImageOfFolder, IsRefusal}
use Rattle.store_open.specs.Opening.{Opens}
use Rattle.store_open.specs.declared.open_error.OpenError.{OpenError}
use Rattle.store_open.specs.declared.open_error.OpenError.TheVariants as error
use Rattle.event_lines.specs.Logs.{LogState, Logs}
use Rattle.api_core.specs.Cores.{core_state}
use Rattle.api_core.specs.Plans.{MayCommit, Plans, Replies, IsQuietBy}
use Rattle.api_core.specs.declared.planned.Effect.{Effect}
use Rattle.api_core.specs.declared.serving.Core.{Core}
use Rattle.api_server.specs.declared.handled.Handled.{Handled}
use Rattle.api_server.specs.declared.handled.Handled.TheVariants.{Answered, Memory, DiskFault, NotOpened}

-- The reply that is sent.
abbrev pub sent_of : Handled → Sent
sent_of (Answered reply) = reply
sent_of Memory = refused refusal.Memory
sent_of DiskFault = refused refusal.DiskFault
sent_of (NotOpened reply) = reply

-- The machine answered it.
abbrev pub IsAnswered : Handled → Type 0
IsAnswered (Answered reply) = ⊤
IsAnswered _ = ⊥

-- The store could not be opened again.
abbrev pub IsNotOpened : Handled → Type 0
IsNotOpened (NotOpened reply) = ⊤
IsNotOpened _ = ⊥

-- ---- an opening that did not succeed

-- What is at fault: a path, a file of the image, a key, and nothing where there is no store.
abbrev pub fault_of : OpenError → List ℕ
fault_of error.NoStore = []
fault_of (error.BadLink path) = joined path
fault_of (error.BadJournal path) = joined path
fault_of (error.Damaged path) = joined path
fault_of (error.OldFormat directory) = joined directory
fault_of (error.BadImage file kind at) = file
fault_of (error.IllTyped key) = printed key
fault_of error.Failed = []
fault_of error.Memory = []

-- What is at fault is reported, or it ran out of memory for that.
abbrev pub TellsFault : OpenError → Handled → Type 0
TellsFault e handled = (handled ≡ NotOpened (refused (refusal.Store (fault_of e)))) ⊎ (handled ≡ Memory)

-- What a request comes to that is given up, for the store was not opened.
abbrev pub GivesUp : OpenError → Handled → Type 0
GivesUp error.Failed handled = handled ≡ DiskFault
GivesUp error.Memory handled = handled ≡ Memory
GivesUp e handled = TellsFault e handled

-- ---- a request

-- The machine replies that it ran out of memory, that the disk failed, or that the store could not be opened again, only where the request came to
-- that.
abbrev pub Fits : machine.Reply → Handled → Type 0
Fits machine.NoMemory handled = handled ≡ Memory
Fits machine.DiskFault handled = handled ≡ DiskFault
Fits (machine.NotOpened at) handled = IsNotOpened handled
Fits _ handled = ⊤

-- The call makes these events of the machine, the last of which is the request, and logs them; what is sent says what the machine
-- replies, and the core holds the image still.
pub record IsHandled (I : Image) (folder : Folder) (W V : World) (q : Request) (handled : Handled) (c now : Core) (log log_after : LogState)
    (old new : History) : Type 0 where
  pub events : List Event
  pub replied : machine.Reply
  pub says : Says replied (sent_of handled)
  pub fits : Fits replied handled
  pub handled_by : ran.Handled I c.faulted W q replied events
  pub made : Ran I folder W V events old new (core_state c) (core_state now)
  pub logged : Logs I W events log log_after
  pub image : HoldsImage I now.image

-- Where the store was opened again and was not refused, the files of the image's folder make the image still.
abbrev pub IsAsBefore : Core → Handled → Image → Folder → Type 0
IsAsBefore c handled I folder = c.faulted ≡ true → (IsNotOpened handled → ⊥) → IsImageOfFolder I folder

-- By each image that the core holds, in each world at which disk and core are, a request is handled by the machine, crash
-- included: after a failed call of the disk the store is opened again first.
pub record Handles (c : Core) (q : Request) (handled : Handled) (now : Core) (log log_after : LogState) (old new : History) : Type 0 where
  pub each : (I : Image) → IsGood I → HoldsImage I c.image → (folder : Folder) → IsAsBefore c handled I folder → (W V : World)
      → Kept I folder W V old (core_state c)
      → IsHandled I folder W V q handled c now log log_after old new

-- The files of the image's folder don't make the image still.
pub record IsOtherStore (c : Core) (old new : History) : Type 0 where
  pub other : (I : Image) → IsGood I → HoldsImage I c.image → (folder : Folder) → IsImageOfFolder I folder → (W V : World)
      → Kept I folder W V old (core_state c) → ⊥

-- A call of the disk had failed before, the opening was refused, and the reply tells what is at fault.
pub record IsRefused (c : Core) (handled : Handled) (told_before told_after : Option History) : Type 0 where
  pub faulted : c.faulted ≡ true
  pub cause : OpenError
  pub is_refusal : IsRefusal cause
  pub handled_is : handled ≡ NotOpened (refused (refusal.Store (fault_of cause)))
  pub opens : Moves told_before told_after (Opens false (Err cause))

-- ---- what stays, and the cause of a failure

-- It ran out of memory, the machine refused the request, or the request asks alone.
abbrev pub ChangesNothing : Request → Handled → Type 0
ChangesNothing q Memory = ⊤
ChangesNothing q (Answered sent) = (is_of_success sent.status ≡ false) ⊎ (is_reading q ≡ true)
ChangesNothing q _ = ⊥

-- A call of the disk failed only where the count rose, and it rose only there.
pub record HasDiskCause (before now : ℕ) (handled : Handled) : Type 0 where
  pub later : before ≤ now
  pub failed : handled ≡ DiskFault → Rose before now
  pub kept : handled ≢ DiskFault → now ≡ before

-- ---- for private clauses

-- The request was planned, and its answer printed.
pub record IsPrinted (c : Core) (q : Request) (reply : Sent) (effect : Effect) : Type 0 where
  pub answer : Answer
  pub planned : Plans c q answer effect
  pub replies : Replies c q answer
  pub may : MayCommit c effect
  pub quiet : IsQuietBy answer effect.change
  pub reading : is_reading q ≡ true → effect.change ≡ []
  pub says : Says (reply_of answer) reply

-- A request comes to one event of the machine, on the disk and in the core, crash included.
pub record IsEvent (I : Image) (folder : Folder) (W V : World) (q : Request) (handled : Handled) (old new : History) (before now : CoreState) : Type 0 where
  pub outcome : Outcome
  pub reopens : Reopens false outcome []
  pub says : Says (request_next I W q outcome).reply (sent_of handled)
  pub fits : Fits (request_next I W q outcome).reply handled
  pub ran : Ran I folder W V (Asked q outcome ∷ []) old new before now

-- By each image that the core holds, in each world at which disk and core are, a request comes to one event.
pub record Answers (c : Core) (q : Request) (handled : Handled) (now : Core) (old new : History) : Type 0 where
  pub event : (I : Image) → IsGood I → HoldsImage I c.image → (folder : Folder) (W V : World) → Kept I folder W V old (core_state c)
      → IsEvent I folder W V q handled old new (core_state c) (core_state now)
