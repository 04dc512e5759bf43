-- Requests that stop stop with others after them.
use Rattle.std.proofs.Common.{List, [], ◌∷◌, ◌++◌, append_assoc, ap, ◌∙◌}
use Rattle.settings_machine.specs.World.{Image, World}
use Rattle.settings_machine.specs.Requests.{Request, Reply}
use Rattle.settings_machine.specs.Events.{Event}
use Rattle.core_commands.specs.Asking.{Stops}

pub stops_before : (I : Image) (W : World) (qs : List Request) (q : Request) (reply : Reply) (events : List Event) → Stops I W qs reply events
    → Stops I W (qs ++ q ∷ []) reply events
stops_before I W qs q reply events s = record {
  first = s.first;
  last = s.last;
  left = s.left ++ q ∷ [];
  all = ap (λ (l : List Request). l ++ q ∷ []) s.all ∙ append_assoc s.first (s.last ∷ s.left) (q ∷ []);
  answered = s.answered;
  outcome = s.outcome;
  opens = s.opens;
  reply_is = s.reply_is;
  refused = s.refused;
  events_are = s.events_are;
}
