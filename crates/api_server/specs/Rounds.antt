-- Connections one after another, and the turns of the job between them, as events of the machine.
use Rattle.std.specs.Prelude.{◌≡◌, ◌≢◌, ℕ, Bool, true, false, List, [], ◌∷◌, ◌++◌, Some}
use Rattle.outside.specs.Exchange.{Exchange}
use Rattle.settings_machine.specs.World.{Image, World}
use Rattle.settings_machine.specs.Requests.{Request, Reply, NotOpened}
use Rattle.settings_machine.specs.Events as events
use Rattle.settings_machine.specs.Events.{Event, after, faulted_after}
use Rattle.machine_disk.specs.Ran.{Handled}
use Rattle.affected_apply.specs.Turned.{AreTurns}
use Rattle.api_server.specs.declared.pace.Pace.{Pace}
use Rattle.api_server.specs.Exchanged.{Said, Nothing, OutOfMemory, Unread, Replied, IsExchanged, why}

-- The request was handled, and not given up because the store could not be opened again.
pub record IsAsked (I : Image) (faulted : Bool) (W : World) (q : Request) (reply : Reply) (asked : List Event) : Type 0 where
  pub handled : Handled I faulted W q reply asked
  pub opens : (at : List ℕ) → reply ≢ NotOpened at

-- The events of what one connection came to.
abbrev pub AsksFor : Image → Bool → World → Said → List Event → Type 0
AsksFor I faulted W Nothing asked = asked ≡ []
AsksFor I faulted W OutOfMemory asked = asked ≡ []
AsksFor I faulted W (Unread r) asked = asked ≡ events.Unread (why r) ∷ []
AsksFor I faulted W (Replied q reply) asked = IsAsked I faulted W q reply asked

-- Turns of a running job while no client was there, of which there may be any number; none, where the pace has none of these.
abbrev pub AreIdle : Bool → Image → World → List Event → Type 0
AreIdle true I W turned = (n : ℕ) × AreTurns I (Some n) W turned
AreIdle false I W turned = turned ≡ []

-- One connection: the turns before it, what it came to, the events of its request, and the turns after it.
pub record Round : Type 0 where
  pub idle : List Event
  pub said : Said
  pub asked : List Event
  pub turned : List Event

-- Its events.
abbrev pub events_of_round : Round → List Event
events_of_round r = r.idle ++ (r.asked ++ r.turned)

-- The events of connections one after another.
abbrev pub events_of : List Round → List Event
events_of [] = []
events_of (r ∷ rs) = events_of_round r ++ events_of rs

-- From this world and this flag turns were made while no client was there, and then a connection came to its request and to a slice of turns after it.
pub record IsRound (I : Image) (pace : Pace) (faulted : Bool) (W : World) (r : Round) : Type 0 where
  pub idle : AreIdle pace.while_idle I W r.idle
  pub asks : AsksFor I (faulted_after faulted r.idle) (after I W r.idle) r.said r.asked
  pub turns : AreTurns I pace.slice (after I (after I W r.idle) r.asked) r.turned

-- Each begins where the one before it has led.
abbrev pub AreRounds : Image → Pace → Bool → World → List Round → Type 0
AreRounds I pace faulted W [] = Unit {0}
AreRounds I pace faulted W (r ∷ rs) =
    IsRound I pace faulted W r × AreRounds I pace (faulted_after faulted (events_of_round r)) (after I W (events_of_round r)) rs

-- The connections that were accepted, the last one first: one more for each round, with its bytes.
abbrev pub AreExchanged : List Round → List Exchange → List Exchange → Type 0
AreExchanged [] old new = new ≡ old
AreExchanged (r ∷ rs) old new = (x : Exchange) × IsExchanged r.said x × AreExchanged rs (x ∷ old) new
