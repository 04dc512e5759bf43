-- Requests that are asked one after another, as events of the machine.
use Rattle.std.specs.Prelude.{◌≡◌, true, false, List, [], ◌∷◌, ◌++◌, Result, Ok, Err, map}
use Rattle.outside.specs.History.{History}
use Rattle.store_open.specs.Laws.{HoldsImage}
use Rattle.settings_machine.specs.World.{Image, World}
use Rattle.settings_machine.specs.Requests as machine
use Rattle.settings_machine.specs.Requests.{Request, Reply, IsProper, reads_files, is_success}
use Rattle.settings_machine.specs.Step.{Outcome, Answered, request_next}
use Rattle.settings_machine.specs.Events.{Event, Asked, next, after}
use Rattle.settings_machine.specs.Paid.{IsGood}
use Rattle.machine_disk.specs.Kept.{Folder, Kept}
use Rattle.machine_disk.specs.Ran.{Ran, Reopens}
use Rattle.settings_machine.specs.Asked.{request_of}
use Rattle.settings_machine.specs.declared.request.Request as asked
use Rattle.command_outcome.specs.declared.refusal.Refusal.{Refusal}
use Rattle.command_outcome.specs.declared.refusal.Refusal.TheVariants as refused
use Rattle.core_commands.specs.Handing.{Tells}
use Rattle.api_core.specs.Cores.{core_state}
use Rattle.api_core.specs.declared.serving.Core.{Core}

-- The core plans it: its keys begin with `settings`, and it reads no configuration files.
pub record IsPlannable (q : Request) : Type 0 where
  pub proper : IsProper q
  pub no_files : reads_files q ≡ false

-- The requests that are asked.
abbrev pub requests : List asked.Request → List Request
requests asks = map request_of asks

-- Each of them is asked and answered.
abbrev pub asked_all : List Request → List Event
asked_all qs = map (λ q. Asked q Answered) qs

-- From W on each is answered with success.
abbrev pub AllSucceed : Image → World → List Request → Type 0
AllSucceed I W [] = Unit {0}
AllSucceed I W (q ∷ qs) = (is_success (request_next I W q Answered).reply ≡ true) × AllSucceed I (next I W (Asked q Answered)) qs

-- The requests are asked one after another, and each is answered with success.
pub record Succeeds (I : Image) (W : World) (qs : List Request) (events : List Event) : Type 0 where
  pub events_are : events ≡ asked_all qs
  pub answered : AllSucceed I W qs

-- The first of the requests are answered with success, and the next one gets this reply, which isn't of success: no opening comes
-- before it, and none is asked after it.
pub record Stops (I : Image) (W : World) (qs : List Request) (reply : Reply) (events : List Event) : Type 0 where
  pub first : List Request
  pub last : Request
  pub left : List Request
  pub all : qs ≡ first ++ last ∷ left
  pub answered : AllSucceed I W first
  pub outcome : Outcome
  pub opens : Reopens false outcome []
  pub reply_is : reply ≡ (request_next I (after I W (asked_all first)) last outcome).reply
  pub refused : is_success reply ≡ false
  pub events_are : events ≡ asked_all first ++ Asked last outcome ∷ []

-- All requests are answered with success, or one of them isn't, and that is reported.
abbrev pub Asks : Image → World → List Request → Result Unit Refusal → List Event → Type 0
Asks I W qs (Ok done) events = Succeeds I W qs events
Asks I W qs (Err refusal) events = (reply : Reply) × Tells reply refusal × Stops I W qs reply events

-- The requests are asked, by the machine, crash included, and the core holds the image still.
pub record AskedBy (I : Image) (folder : Folder) (W V : World) (qs : List Request) (result : Result Unit Refusal) (c now : Core) (old new : History) : Type
    0 where
  pub events : List Event
  pub asks : Asks I W qs result events
  pub made : Ran I folder W V events old new (core_state c) (core_state now)
  pub holds : HoldsImage I now.image

-- By each image that the core holds, and in each world at which disk and core are, where no call of the disk has failed.
pub record AsksEach (qs : List Request) (result : Result Unit Refusal) (c now : Core) (old new : History) : Type 0 where
  pub each : (I : Image) → IsGood I → HoldsImage I c.image → (folder : Folder) (W V : World) → Kept I folder W V old (core_state c)
      → AskedBy I folder W V qs result c now old new

-- ---- one request

-- What one request comes to: it is answered with success, and this is reported of the reply; or it isn't, and that is reported.
abbrev pub AsksOne : {T : Type 0} → Image → World → Request → (Reply → T → Type 0) → Result T Refusal → Outcome → Type 0
AsksOne I W q Of (Ok value) outcome = (outcome ≡ Answered) × (is_success (request_next I W q Answered).reply ≡ true)
    × Of (request_next I W q Answered).reply value
AsksOne I W q Of (Err refusal) outcome = (is_success (request_next I W q outcome).reply ≡ false) × Tells (request_next I W q outcome).reply refusal

-- It is asked, by the machine, crash included, and the core holds the image still.
pub record AskedOneBy {T : Type 0} (I : Image) (folder : Folder) (W V : World) (q : Request) (Of : Reply → T → Type 0) (result : Result T Refusal)
    (c now : Core) (old new : History)
    : Type 0 where
  pub outcome : Outcome
  pub opens : Reopens false outcome []
  pub asks : AsksOne I W q Of result outcome
  pub made : Ran I folder W V (Asked q outcome ∷ []) old new (core_state c) (core_state now)
  pub holds : HoldsImage I now.image

-- By each image that the core holds, and in each world at which disk and core are, where no call of the disk has failed.
pub record AsksFor {T : Type 0} (q : Request) (Of : Reply → T → Type 0) (result : Result T Refusal) (c now : Core) (old new : History) : Type 0 where
  pub each : (I : Image) → IsGood I → HoldsImage I c.image → (folder : Folder) (W V : World) → Kept I folder W V old (core_state c)
      → AskedOneBy I folder W V q Of result c now old new

-- ---- for private clauses

-- What a request comes to where the machine replies so: this is reported of a reply of success, or why the machine refuses it.
abbrev pub TellsReply : {T : Type 0} → (Reply → T → Type 0) → Reply → Result T Refusal → Type 0
TellsReply Of (machine.Said body) (Ok value) = Of (machine.Said body) value
TellsReply Of machine.Empty (Ok value) = Of machine.Empty value
TellsReply Of (machine.Refused r) (Err refusal) = refusal ≡ refused.Refused r
TellsReply Of _ _ = ⊥
