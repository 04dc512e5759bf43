-- What a request for a job that is answered with success leads to: once the job is idle, nothing is owed.
use Rattle.std.specs.Prelude.{◌≡◌, Bool, true, false, List, ◌∷◌}
use Rattle.std.specs.List.{list_any}
use Rattle.settings_machine.specs.World.{Image, World, Idle, owes_none}
use Rattle.settings_machine.specs.Requests.{Request, Commit, Apply, CommitAndApply, Set, ApplyAll, Guarded, is_success}
use Rattle.settings_machine.specs.Step.{Outcome, Answered, Faulted, request_next}
use Rattle.settings_machine.specs.Events.{Event, Opened, Asked, Unread, Turned, Began, Moved, Forgot, after}

-- Whether the request asks for a job.
abbrev pub is_applying : Request → Bool
is_applying Apply = true
is_applying (CommitAndApply tx) = true
is_applying (Set pairs) = true
is_applying ApplyAll = true
is_applying (Guarded q) = is_applying q
is_applying _ = false

-- Whether keys may be owed after the request, and it asked for no job that is to pay them.
abbrev pub commits_alone : Request → Outcome → Bool
commits_alone (Commit tx) o = true
commits_alone (CommitAndApply tx) (Faulted taken) = true
commits_alone (Set pairs) (Faulted taken) = true
commits_alone ApplyAll (Faulted taken) = true
commits_alone (Guarded q) o = commits_alone q o
commits_alone _ o = false

-- Whether keys may be owed after the event for which no job was asked: after such a request, an opening, a beginning, a migration and the forgetting of keys.
abbrev pub leaves_owed : Event → Bool
leaves_owed (Opened boot o) = true
leaves_owed (Asked q o) = commits_alone q o
leaves_owed (Unread why) = false
leaves_owed (Turned a) = false
leaves_owed (Began version) = true
leaves_owed (Moved version held) = true
leaves_owed (Forgot keys) = true

-- From each world: after a request for a job that was answered with success, and events of which none leaves keys owed for which no
-- job was asked, an idle job owes nothing.
abbrev pub IdleOwesNothing : Type 0
IdleOwesNothing = (I : Image) (W : World) (q : Request) → is_applying q ≡ true → is_success (request_next I W q Answered).reply ≡ true
    → (events : List Event) → list_any leaves_owed events ≡ false → (after I W (Asked q Answered ∷ events)).job ≡ Idle
    → owes_none (after I W (Asked q Answered ∷ events)).held.owed ≡ true
