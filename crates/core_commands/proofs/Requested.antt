-- Requests run no program.
use Rattle.std.proofs.Common.{◌≡◌, Bool, List, [], ◌∷◌, refl, ◌∙◌, ap}
use Rattle.settings_machine.specs.World.{Image, World}
use Rattle.settings_machine.specs.Requests.{Request, Reply}
use Rattle.settings_machine.specs.Step.{Answered, opened}
use Rattle.settings_machine.specs.Events.{Event, Succeeded, Asked, next, after}
use Rattle.settings_machine.proofs.Programs.{request_runs, opening_runs}
use Rattle.settings_machine.proofs.Sequences.{after-append}
use Rattle.core_commands.specs.Asking.{asked_all, Succeeds, Stops}

module _ (I : Image) where
  -- Nor does an opening.
  pub opened_runs : (W : World) (boot : Bool) → (opened I W boot).runs ≡ W.runs
  opened_runs W boot = opening_runs I W boot Succeeded

  all_run : (W : World) (qs : List Request) → (after I W (asked_all qs)).runs ≡ W.runs
  all_run W [] = refl
  all_run W (q ∷ qs) = all_run (next I W (Asked q Answered)) qs ∙ request_runs I W q Answered

  -- Requests that are all answered with success,
  pub succeeds_runs : (W : World) (qs : List Request) (events : List Event) → Succeeds I W qs events → (after I W events).runs ≡ W.runs
  succeeds_runs W qs events s = ap (λ (es : List Event). (after I W es).runs) s.events_are ∙ all_run W qs

  -- and those of which one isn't.
  pub stops_runs : (W : World) (qs : List Request) (reply : Reply) (events : List Event) → Stops I W qs reply events → (after I W events).runs ≡ W.runs
  stops_runs W qs reply events s =
      ap (λ (es : List Event). (after I W es).runs) s.events_are
      ∙ ap (λ (X : World). X.runs) (after-append I W (asked_all s.first) (Asked s.last s.outcome ∷ []))
      ∙ request_runs I (after I W (asked_all s.first)) s.last s.outcome
      ∙ all_run W s.first
