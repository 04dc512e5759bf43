-- Requests run no program.
use Rattle.std.proofs.Common.{◌≡◌, Bool, true, false, List, [], ◌∷◌, ◌∙◌, ap}
use Rattle.settings_machine.specs.World.{Image, World}
use Rattle.settings_machine.specs.Requests.{Request, Reply}
use Rattle.settings_machine.specs.Step.{Outcome, Answered, WithoutMemory, Unopened, Faulted}
use Rattle.settings_machine.specs.Events.{Event, Opening, Succeeded, Opened, Asked, after}
use Rattle.settings_machine.proofs.Programs.{request_runs, opening_runs}
use Rattle.settings_machine.proofs.Sequences.{after-append}
use Rattle.machine_disk.specs.Ran.{Reopens, Handled}
use Rattle.api_server.specs.Exchanged.{Said, Nothing, OutOfMemory, Unread, Replied}
use Rattle.api_server.specs.Rounds.{AsksFor}

module _ (I : Image) where
  none_runs : (W : World) (first : List Event) → first ≡ [] → (after I W first).runs ≡ W.runs
  none_runs W first none = ap (λ (es : List Event). (after I W es).runs) none

  one_runs : (W : World) (opening : Opening) (first : List Event) → first ≡ Opened false opening ∷ [] → (after I W first).runs ≡ W.runs
  one_runs W opening first one = ap (λ (es : List Event). (after I W es).runs) one ∙ opening_runs I W false opening

  reopening_runs : (W : World) (faulted : Bool) (o : Outcome) (first : List Event) → Reopens faulted o first → (after I W first).runs ≡ W.runs
  reopening_runs W false Answered first reopens = none_runs W first reopens
  reopening_runs W false WithoutMemory first reopens = none_runs W first reopens
  reopening_runs W false (Unopened at) first reopens = absurd reopens
  reopening_runs W false (Faulted taken) first reopens = none_runs W first reopens
  reopening_runs W true Answered first reopens = one_runs W Succeeded first reopens
  reopening_runs W true WithoutMemory first reopens = one_runs W reopens.0 first reopens.1
  reopening_runs W true (Unopened at) first reopens = none_runs W first reopens
  reopening_runs W true (Faulted taken) first reopens = one_runs W reopens.0 first reopens.1

  -- A request, with the opening before it.
  pub handled_runs : (faulted : Bool) (W : World) (q : Request) (reply : Reply) (es : List Event) → Handled I faulted W q reply es
      → (after I W es).runs ≡ W.runs
  handled_runs faulted W q reply es handled =
      ap (λ (l : List Event). (after I W l).runs) handled.made
      ∙ ap (λ (X : World). X.runs) (after-append I W handled.first (Asked q handled.outcome ∷ []))
      ∙ request_runs I (after I W handled.first) q handled.outcome
      ∙ reopening_runs W faulted handled.outcome handled.first handled.reopens

  -- What one connection came to.
  pub asks_runs : (faulted : Bool) (W : World) (said : Said) (es : List Event) → AsksFor I faulted W said es → (after I W es).runs ≡ W.runs
  asks_runs faulted W Nothing es none = none_runs W es none
  asks_runs faulted W OutOfMemory es none = none_runs W es none
  asks_runs faulted W (Unread r) es one = ap (λ (l : List Event). (after I W l).runs) one
  asks_runs faulted W (Replied q reply) es asked = handled_runs faulted W _ reply es asked.handled
