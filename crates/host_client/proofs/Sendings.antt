-- What was sent, call after call.
use Rattle.std.proofs.Common.{◌≡◌, ℕ, List, [], ◌++◌, Option, refl, sym, ◌∙◌, ap}
use Rattle.std.proofs.lemmas.List.{append-nil}
use Rattle.outside.specs.Told.{Moves}
use Rattle.outside.specs.Exchange.{Exchange}
use Rattle.outside.proofs.Told.{moves_stay, moves_map}
use Rattle.host_client.specs.Exchanges.{after_writing, IsSent, IsSentBefore, IsSentInPart}

-- nothing is sent yet
pub sent_none : (text : List ℕ) (a : Option Exchange) → Moves a a (IsSentBefore text text)
sent_none text a =
    moves_stay (λ e. record {
      front = [];
      split = refl;
      is = ap (λ (l : List ℕ). let x : Exchange =
          record { heard = e.heard; left = e.left; written = l; failed = e.failed } in x) (sym (append-nil e.written));
    })

-- nothing is left to be sent
pub sent_all : (text rest : List ℕ) (a b : Option Exchange) → Moves a b (IsSentBefore rest text) → rest ≡ [] → Moves a b (IsSent text)
sent_all text rest a b m none = moves_map (λ old new before.
    before.is ∙ ap (λ (l : List ℕ). after_writing l old) (sym (before.split ∙ ap (λ (l : List ℕ). before.front ++ l) none ∙ append-nil before.front))) m

-- what is sent is a part
pub sent_part : (text rest : List ℕ) (a b : Option Exchange) → Moves a b (IsSentBefore rest text) → Moves a b (IsSentInPart text)
sent_part text rest a b m = moves_map (λ old new before. record {
  front = before.front;
  rest = rest;
  split = before.split;
  written =
      ap (λ (e : Exchange). e.written) before.is;
}) m

pub ruleset sendings = (sent_none, sent_all, sent_part)
