-- Where a command has ended well, no call of the disk has failed since its opening.
use Rattle.std.proofs.Common.{◌≡◌, inl, inr, ℕ, Bool, true, false, List, [], ◌∷◌, ◌++◌, Ok, Err, OnOk, refl, ◌∙◌, ap}
use Rattle.settings_machine.specs.World.{Image, World, Idle, Failed, is_running}
use Rattle.settings_machine.specs.Requests.{Request}
use Rattle.settings_machine.specs.Step.{Answered, WithoutMemory, Unopened, Faulted, turn_next, opened}
use Rattle.settings_machine.specs.Events.{Event, Opened, Asked, Unread, Turned, Began, Moved, Forgot, is_disk_fault, after, faulted_after}
use Rattle.settings_machine.specs.declared.cause.Cause.{Cause}
use Rattle.settings_machine.specs.declared.cause.Cause.TheVariants as cause
use Rattle.settings_machine.proofs.Sequences.{faulted-append}
use Rattle.machine_disk.specs.Ran.{IsDriven}
use Rattle.api_server.proofs.Slices.{turn_fails}
use Rattle.command_outcome.specs.Ends.{Outcome}
use Rattle.core_commands.specs.Asking.{asked_all}
use Rattle.core_commands.specs.Carried.{HasEnded}
use Rattle.settings_run.specs.Laws.{RequestEvents, GetEvents, VerifyEvents}

-- ---- turns until no job runs

module _ (I : Image) where
  -- A failed job makes no turn.
  pub stays_failed : (W : World) (c : Cause) (es : List Event) → W.job ≡ Failed c → IsDriven I W es → (after I W es).job ≡ Failed c
  stays_failed W c [] failed driven = failed
  stays_failed W c (Turned a ∷ es) failed driven = let stopped : is_running W.job ≡ false = ap is_running failed in absurd (cc (driven.0, stopped))
  stays_failed W c (Opened boot o ∷ es) failed driven = absurd driven
  stays_failed W c (Asked q o ∷ es) failed driven = absurd driven
  stays_failed W c (Unread why ∷ es) failed driven = absurd driven
  stays_failed W c (Began version ∷ es) failed driven = absurd driven
  stays_failed W c (Moved version held ∷ es) failed driven = absurd driven
  stays_failed W c (Forgot keys ∷ es) failed driven = absurd driven

  -- Where the job is idle in the end, the disk failed in no turn.
  driven_calm : (W : World) (es : List Event) → IsDriven I W es → (after I W es).job ≡ Idle → faulted_after false es ≡ false
  driven_calm W [] driven idle = refl
  driven_calm W (Turned a ∷ es) driven idle = by (driven_calm (turn_next I W a) es driven.2 idle) (is_disk_fault a) refl where
    by : faulted_after false es ≡ false → (fault : Bool) → is_disk_fault a ≡ fault → faulted_after (is_disk_fault a) es ≡ false
    by calm false is = ap (λ (b : Bool). faulted_after b es) is ∙ calm
    by calm true is =
        let failed : (after I (turn_next I W a) es).job ≡ Failed cause.Disk =
        stays_failed (turn_next I W a) cause.Disk es (turn_fails I W a driven.0 is) driven.2 in
        absurd (cc (failed, idle))
  driven_calm W (Opened boot o ∷ es) driven idle = absurd driven
  driven_calm W (Asked q o ∷ es) driven idle = absurd driven
  driven_calm W (Unread why ∷ es) driven idle = absurd driven
  driven_calm W (Began version ∷ es) driven idle = absurd driven
  driven_calm W (Moved version held ∷ es) driven idle = absurd driven
  driven_calm W (Forgot keys ∷ es) driven idle = absurd driven

-- ---- requests that were all answered, and turns until the job is idle

pub asked_calm : (qs : List Request) → faulted_after false (asked_all qs) ≡ false
asked_calm [] = refl
asked_calm (q ∷ qs) = asked_calm qs

ended_calm : (I : Image) (W : World) (qs : List Request) (asked turned : List Event) → HasEnded I W qs Idle asked turned
    → faulted_after false (asked ++ turned) ≡ false
ended_calm I W qs asked turned ended =
    faulted-append false asked turned
    ∙ ap (λ (b : Bool). faulted_after b turned) (ap (faulted_after false) ended.succeeds.events_are ∙ asked_calm qs)
    ∙ driven_calm I (after I W asked) turned ended.driven ended.job_is

-- ---- commands that ended well

pub requests_calm : (I : Image) (W : World) (qs : List Request) (Tells : World → List ℕ → Type 0) (said : List ℕ) (events : List Event)
    → RequestEvents I W qs Tells (Ok said) events → faulted_after false events ≡ false
requests_calm I W qs Tells said events (inl (asked, turned, is, comes)) =
    ap (faulted_after false) is ∙ ended_calm I (opened I W false) qs asked turned comes.0
requests_calm I W qs Tells said events (inr (inl (taken, is, inl told))) = absurd (cc told)
requests_calm I W qs Tells said events (inr (inl (taken, is, inr told))) = absurd (cc told)
requests_calm I W qs Tells said events (inr (inr (is, e, refusal, told))) = absurd (cc told)

pub gets_calm : (I : Image) (W : World) (keys : List (List (List ℕ))) (said : List ℕ) (events : List Event)
    → GetEvents I W keys (Ok said) events → faulted_after false events ≡ false
gets_calm I W keys said events (inl (is, answers)) = ap (faulted_after false) is
gets_calm I W keys said events (inr (inl (taken, is, inl told))) = absurd (cc told)
gets_calm I W keys said events (inr (inl (taken, is, inr told))) = absurd (cc told)
gets_calm I W keys said events (inr (inr (is, e, refusal, told))) = absurd (cc told)

-- A reading that was answered is no fault.
pub verifies_calm : (I : Image) (W : World) (said : List ℕ) (events : List Event) → VerifyEvents I W (Ok said) events → faulted_after false events ≡ false
verifies_calm I W said events (inl (Answered, opens, is, tells)) = ap (faulted_after false) is
verifies_calm I W said events (inl (WithoutMemory, opens, is, tells)) = absurd (cc tells)
verifies_calm I W said events (inl (Faulted taken, opens, is, tells)) = absurd (cc tells)
verifies_calm I W said events (inl (Unopened at, opens, is, tells)) = absurd tells
verifies_calm I W said events (inr (inl (taken, is, inl told))) = absurd (cc told)
verifies_calm I W said events (inr (inl (taken, is, inr told))) = absurd (cc told)
verifies_calm I W said events (inr (inr (is, e, refusal, told))) = absurd (cc told)

-- Of a run that ended well it holds that no call of the disk has failed since its opening.
pub ends_calm : (events : List Event) (outcome : Outcome) → ((said : List ℕ) → outcome ≡ Ok said → faulted_after false events ≡ false)
    → OnOk outcome (faulted_after false events ≡ false)
ends_calm events (Ok said) well = well said refl
ends_calm events (Err e) well = tt
