-- The events of an open store are openings, requests and turns.
use Rattle.std.proofs.Common.{◌≡◌, inl, inr, ◌&&◌, ℕ, Bool, true, false, List, [], ◌∷◌, ◌++◌, Option, Some, None, Result, Ok, Err, refl, ◌∙◌, ap}
use Rattle.json_trees.specs.declared.scalar.Scalar.{Scalar}
use Rattle.settings_machine.specs.World.{Key, Image, World, Job}
use Rattle.settings_machine.specs.Requests.{Request, Reply}
use Rattle.settings_machine.specs.Step.{Outcome as Came, Answered, WithoutMemory, Unopened, Faulted}
use Rattle.settings_machine.specs.Events.{Event, Asked, are_served, after, faulted_after}
use Rattle.settings_machine.proofs.Sequences.{served-append}
use Rattle.machine_disk.specs.Ran.{Reopens, Handled}
use Rattle.machine_disk.proofs.Runs.{slice_served, driven_served}
use Rattle.affected_apply.specs.Turned.{AreTurns}
use Rattle.core_commands.specs.Asking.{asked_all, Succeeds, Stops}
use Rattle.core_commands.specs.Carried.{HasStopped, HasEnded, Comes}
use Rattle.core_commands.specs.Committing.{ComesTo}
use Rattle.core_commands.proofs.Requested.{succeeds_runs, stops_runs}
use Rattle.api_server.specs.declared.pace.Pace.{Pace}
use Rattle.api_server.specs.Exchanged.{Said, Nothing, OutOfMemory, Unread as Refused, Replied}
use Rattle.api_server.specs.Rounds.{AsksFor, AreIdle, Round, AreRounds, events_of_round, events_of}
use Rattle.api_server.specs.Serving.{AreBooted, AreLast, AreServed}
use Rattle.command_outcome.specs.Ends.{Outcome}
use Rattle.command_outcome.specs.declared.refusal.Refusal.{Refusal}
use Rattle.command_outcome.specs.declared.refusal.Refusal.TheVariants as refused

-- Both parts are.
pub both : (es fs : List Event) → are_served es ≡ true → are_served fs ≡ true → are_served (es ++ fs) ≡ true
both es fs one two = served-append es fs ∙ ap (λ (b : Bool). b && are_served fs) one ∙ two

-- ---- requests

asked_served : (qs : List Request) → are_served (asked_all qs) ≡ true
asked_served [] = refl
asked_served (q ∷ qs) = asked_served qs

succeeds_served : (I : Image) (W : World) (qs : List Request) (es : List Event) → Succeeds I W qs es → are_served es ≡ true
succeeds_served I W qs es is = ap are_served is.events_are ∙ asked_served qs

stops_served : (I : Image) (W : World) (qs : List Request) (reply : Reply) (es : List Event) → Stops I W qs reply es → are_served es ≡ true
stops_served I W qs reply es is = ap are_served is.events_are ∙ both (asked_all is.first) (Asked is.last is.outcome ∷ []) (asked_served is.first) refl

module _ (I : Image) (W : World) (qs : List Request) where
  stopped : (reply : Reply) (asked turned : List Event) → HasStopped I W qs reply asked turned → are_served (asked ++ turned) ≡ true
  stopped reply asked turned is = both asked turned (stops_served I W qs reply asked is.stops) (ap are_served is.no_turns)

  ended : (job : Job) (asked turned : List Event) → HasEnded I W qs job asked turned → are_served (asked ++ turned) ≡ true
  ended job asked turned is = both asked turned (succeeds_served I W qs asked is.succeeds) (driven_served I (after I W asked) turned is.driven)

  -- What a command comes to.
  pub comes_served : {T : Type 0} (Tells : World → T → Type 0) (result : Result T Refusal) (asked turned : List Event) → Comes I W qs Tells result asked turned
      → are_served (asked ++ turned) ≡ true
  comes_served Tells (Ok said) asked turned comes = ended _ asked turned comes.0
  comes_served Tells (Err (refused.Refused refusal)) asked turned comes = stopped _ asked turned comes
  comes_served Tells (Err (refused.Spawn name)) asked turned comes = ended _ asked turned comes
  comes_served Tells (Err (refused.Render file error)) asked turned comes = ended _ asked turned comes
  comes_served Tells (Err (refused.Status service number)) asked turned comes = ended _ asked turned comes
  comes_served Tells (Err refused.Disk) asked turned (inl is) = stopped _ asked turned is
  comes_served Tells (Err refused.Disk) asked turned (inr is) = ended _ asked turned is
  comes_served Tells (Err refused.Memory) asked turned (inl is) = stopped _ asked turned is
  comes_served Tells (Err refused.Memory) asked turned (inr is) = ended _ asked turned is.1
  comes_served Tells (Err refused.Usage) asked turned comes = absurd comes
  comes_served Tells (Err refused.Door) asked turned comes = absurd comes
  comes_served Tells (Err refused.NoStore) asked turned comes = absurd comes
  comes_served Tells (Err (refused.Damaged path)) asked turned comes = absurd comes
  comes_served Tells (Err (refused.BadLink path)) asked turned comes = absurd comes
  comes_served Tells (Err (refused.BadJournal path)) asked turned comes = absurd comes
  comes_served Tells (Err (refused.BadImage file kind at)) asked turned comes = absurd comes
  comes_served Tells (Err (refused.IllTyped key)) asked turned comes = absurd comes
  comes_served Tells (Err (refused.NotCovered lines)) asked turned comes = absurd comes
  comes_served Tells (Err (refused.Missing at target)) asked turned comes = absurd comes
  comes_served Tells (Err (refused.Conflict key)) asked turned comes = absurd comes
  comes_served Tells (Err (refused.AlreadyThere version)) asked turned comes = absurd comes
  comes_served Tells (Err (refused.OldFormat directory)) asked turned comes = absurd comes
  comes_served Tells (Err (refused.GeneratorStatus key number)) asked turned comes = absurd comes
  comes_served Tells (Err (refused.GeneratorOutput key)) asked turned comes = absurd comes
  comes_served Tells (Err (refused.UserData kind at)) asked turned comes = absurd comes
  comes_served Tells (Err (refused.Dump kind at)) asked turned comes = absurd comes
  comes_served Tells (Err (refused.MigrationStatus name number)) asked turned comes = absurd comes
  comes_served Tells (Err (refused.MigrationOutput name)) asked turned comes = absurd comes
  comes_served Tells (Err (refused.NotCurrent lines)) asked turned comes = absurd comes
  comes_served Tells (Err (refused.HoldsIllTyped lines)) asked turned comes = absurd comes
  comes_served Tells (Err (refused.WouldNotRender lines)) asked turned comes = absurd comes

-- ---- commits of pairs

-- Events that are requests, and run no program.
pub record ArePlain (I : Image) (W : World) (events : List Event) : Type 0 where
  pub served : are_served events ≡ true
  pub runs : (after I W events).runs ≡ W.runs

module _ (I : Image) (W : World) (tx : List ℕ) (pairs : List (Key × Scalar)) where
  succeeds_plain : (qs : List Request) (events : List Event) → Succeeds I W qs events → ArePlain I W events
  succeeds_plain qs events is = record { served = succeeds_served I W qs events is; runs = succeeds_runs I W qs events is }

  stops_plain : (qs : List Request) (reply : Reply) (events : List Event) → Stops I W qs reply events → ArePlain I W events
  stops_plain qs reply events is = record { served = stops_served I W qs reply events is; runs = stops_runs I W qs reply events is }

  -- What a commit of pairs comes to.
  pub commits_plain : (outcome : Outcome) (events : List Event) → ComesTo I W tx pairs outcome events → ArePlain I W events
  commits_plain (Ok line) events comes = succeeds_plain _ events comes.0
  commits_plain (Err (refused.Refused refusal)) events comes = stops_plain _ _ events comes
  commits_plain (Err refused.Disk) events comes = stops_plain _ _ events comes
  commits_plain (Err refused.Memory) events (inl none) = record { served = ap are_served none; runs = ap (λ (es : List Event). (after I W es).runs) none }
  commits_plain (Err refused.Memory) events (inr is) = stops_plain _ _ events is
  commits_plain (Err refused.Usage) events comes = absurd comes
  commits_plain (Err refused.Door) events comes = absurd comes
  commits_plain (Err (refused.Spawn name)) events comes = absurd comes
  commits_plain (Err refused.NoStore) events comes = absurd comes
  commits_plain (Err (refused.Damaged path)) events comes = absurd comes
  commits_plain (Err (refused.BadLink path)) events comes = absurd comes
  commits_plain (Err (refused.BadJournal path)) events comes = absurd comes
  commits_plain (Err (refused.BadImage file kind at)) events comes = absurd comes
  commits_plain (Err (refused.IllTyped key)) events comes = absurd comes
  commits_plain (Err (refused.NotCovered lines)) events comes = absurd comes
  commits_plain (Err (refused.Render file error)) events comes = absurd comes
  commits_plain (Err (refused.Status service number)) events comes = absurd comes
  commits_plain (Err (refused.Missing at target)) events comes = absurd comes
  commits_plain (Err (refused.Conflict key)) events comes = absurd comes
  commits_plain (Err (refused.AlreadyThere version)) events comes = absurd comes
  commits_plain (Err (refused.OldFormat directory)) events comes = absurd comes
  commits_plain (Err (refused.GeneratorStatus key number)) events comes = absurd comes
  commits_plain (Err (refused.GeneratorOutput key)) events comes = absurd comes
  commits_plain (Err (refused.UserData kind at)) events comes = absurd comes
  commits_plain (Err (refused.Dump kind at)) events comes = absurd comes
  commits_plain (Err (refused.MigrationStatus name number)) events comes = absurd comes
  commits_plain (Err (refused.MigrationOutput name)) events comes = absurd comes
  commits_plain (Err (refused.NotCurrent lines)) events comes = absurd comes
  commits_plain (Err (refused.HoldsIllTyped lines)) events comes = absurd comes
  commits_plain (Err (refused.WouldNotRender lines)) events comes = absurd comes

-- ---- connections

reopens_served : (faulted : Bool) (o : Came) (first : List Event) → Reopens faulted o first → are_served first ≡ true
reopens_served false Answered first is = ap are_served is
reopens_served false WithoutMemory first is = ap are_served is
reopens_served false (Faulted taken) first is = ap are_served is
reopens_served false (Unopened at) first is = absurd is
reopens_served true (Unopened at) first is = ap are_served is
reopens_served true Answered first is = ap are_served is
reopens_served true WithoutMemory first is = ap are_served is.1
reopens_served true (Faulted taken) first is = ap are_served is.1

handled_served : (I : Image) (faulted : Bool) (W : World) (q : Request) (reply : Reply) (es : List Event) → Handled I faulted W q reply es
    → are_served es ≡ true
handled_served I faulted W q reply es is = ap are_served is.made ∙ both is.first (Asked q is.outcome ∷ [])
    (reopens_served faulted is.outcome is.first is.reopens) refl

turns_served : (I : Image) (slice : Option ℕ) (W : World) (es : List Event) → AreTurns I slice W es → are_served es ≡ true
turns_served I None W es are = driven_served I W es are
turns_served I (Some n) W es are = slice_served I n W es are

idle_served : (I : Image) (while_idle : Bool) (W : World) (es : List Event) → AreIdle while_idle I W es → are_served es ≡ true
idle_served I true W es are = slice_served I are.0 W es are.1
idle_served I false W es are = ap are_served are

module _ (I : Image) (pace : Pace) where
  asks_served : (faulted : Bool) (W : World) (said : Said) (es : List Event) → AsksFor I faulted W said es → are_served es ≡ true
  asks_served faulted W Nothing es is = ap are_served is
  asks_served faulted W OutOfMemory es is = ap are_served is
  asks_served faulted W (Refused r) es is = ap are_served is
  asks_served faulted W (Replied q reply) es is = handled_served I faulted W _ reply es is.handled

  rounds_served : (faulted : Bool) (W : World) (rounds : List Round) → AreRounds I pace faulted W rounds → are_served (events_of rounds) ≡ true
  rounds_served faulted W [] are = refl
  rounds_served faulted W (r ∷ rounds) are =
      both (events_of_round r) (events_of rounds)
      (both r.idle (r.asked ++ r.turned) (idle_served I pace.while_idle W r.idle are.0.idle)
      (both r.asked r.turned (asks_served (faulted_after faulted r.idle) (after I W r.idle) r.said r.asked are.0.asks)
      (turns_served I pace.slice (after I (after I W r.idle) r.asked) r.turned are.0.turns)))
      (rounds_served (faulted_after faulted (events_of_round r)) (after I W (events_of_round r)) rounds are.1)

  booted_served : (boot faulted : Bool) (W : World) (es : List Event) → AreBooted boot I pace.slice faulted W es → are_served es ≡ true
  booted_served false faulted W es is = ap are_served is
  booted_served true faulted W es is =
      ap are_served is.whole ∙ both is.asked is.turned (handled_served I faulted W _ is.reply is.asked is.request.handled)
      (turns_served I pace.slice (after I W is.asked) is.turned is.turns)

  last_served : (fine : Bool) (W : World) (es : List Event) → AreLast fine I W es → are_served es ≡ true
  last_served true W es is = driven_served I W es is
  last_served false W es is = ap are_served is

  -- What is served.
  pub all_served : (boot fine faulted : Bool) (W : World) (rounds : List Round) (es : List Event) → AreServed I pace boot fine faulted W rounds es
      → are_served es ≡ true
  all_served boot fine faulted W rounds es is =
      ap are_served is.whole
      ∙ both is.booted ((events_of rounds ++ is.idle) ++ is.last) (booted_served boot faulted W is.booted is.boots)
      (both (events_of rounds ++ is.idle) is.last
      (both (events_of rounds) is.idle (rounds_served (faulted_after faulted is.booted) (after I W is.booted) rounds is.are)
      (idle_served I pace.while_idle _ is.idle is.idles))
      (last_served fine _ is.last is.ends))
