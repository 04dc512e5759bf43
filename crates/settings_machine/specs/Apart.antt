-- Transactions are apart: what one has pending depends on the requests on it alone.
use Rattle.std.specs.Prelude.{◌≡◌, ℕ, Bool, true, false, List, filter}
use Rattle.std.specs.List.{list_any}
use Rattle.std.specs.FinMap.{get}
use Rattle.std.specs.Str.{bytes_eq}
use Rattle.settings_machine.specs.World.{Image, World}
use Rattle.settings_machine.specs.Requests.{Request, Patch, Pends, DropTx, Commit, CommitAndApply, Guarded}
use Rattle.settings_machine.specs.Step.{Outcome, request_next}
use Rattle.settings_machine.specs.Events.{Event, Asked, Began, Moved, Forgot, after}

-- Whether the request is a patch, the drop or the commit of the transaction, guarded or not.
abbrev pub is_on : List ℕ → Request → Bool
is_on tx (Patch t pairs) = bytes_eq t tx
is_on tx (DropTx t) = bytes_eq t tx
is_on tx (Commit t) = bytes_eq t tx
is_on tx (CommitAndApply t) = bytes_eq t tx
is_on tx (Guarded q) = is_on tx q
is_on tx _ = false

-- Whether the event is such a request, or leads to another store, or takes what is pending away.
abbrev pub is_event_on : List ℕ → Event → Bool
is_event_on tx (Asked q o) = is_on tx q
is_event_on tx (Began version) = true
is_event_on tx (Moved version held) = true
is_event_on tx (Forgot keys) = true
is_event_on tx _ = false

-- The events on a transaction alone, in their order.
abbrev pub events_on : List ℕ → List Event → List Event
events_on tx events = filter (is_event_on tx) events

-- The transaction has the same pending in both worlds, and who asks for it is answered the same, whatever the outside lets that come to.
pub record HasSamePending (I : Image) (tx : List ℕ) (W X : World) : Type 0 where
  pub pending : get W.held.pending tx ≡ get X.held.pending tx
  pub reply : (o : Outcome) → (request_next I W (Pends tx) o).reply ≡ (request_next I X (Pends tx) o).reply

-- Events of which none is on a transaction leave what it has pending, and what who asks for it is answered.
abbrev pub OthersLeaveIt : Type 0
OthersLeaveIt = (I : Image) (tx : List ℕ) (W : World) (events : List Event) → list_any (is_event_on tx) events ≡ false
    → HasSamePending I tx (after I W events) W

-- Whether the request is a guarded change, which the live settings may refuse.
abbrev pub is_guarded : Request → Bool
is_guarded (Guarded q) = true
is_guarded _ = false

-- Whether the event is such a request.
abbrev pub is_guarded_event : Event → Bool
is_guarded_event (Asked q o) = is_guarded q
is_guarded_event _ = false

-- From two worlds in which a transaction has the same pending it has the same, be it after all events or after those on it alone,
-- unless one of these is guarded.
abbrev pub TransactionsAreApart : Type 0
TransactionsAreApart = (I : Image) (tx : List ℕ) (W X : World) → get W.held.pending tx ≡ get X.held.pending tx → (events : List Event)
    → list_any is_guarded_event (events_on tx events) ≡ false → HasSamePending I tx (after I W events) (after I X (events_on tx events))
