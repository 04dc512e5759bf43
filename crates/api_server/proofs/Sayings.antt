-- What was said, call after call.
use Rattle.std.proofs.Common.{◌≡◌, ℕ, List, [], ◌++◌, take, drop, Option, Ok, inl, refl, sym, ◌∙◌, ap, append_assoc, take-append-drop}
use Rattle.std.proofs.lemmas.List.{append-nil}
use Rattle.outside.specs.Exchange.{Exchange, Says}
use Rattle.outside.specs.Door.{LastBy}
use Rattle.outside.specs.Told.{Moves}
use Rattle.api_server.specs.Reading.{LastIf}
use Rattle.api_server.specs.Saying.{IsSaid, IsSaidBefore}
use Rattle.api_server.proofs.Lasts.{lasts_stay, lasts_then, lasts_if, lasts_map}

-- nothing is said yet
pub said_none : (bytes : List ℕ) (a : Option (List Exchange)) → Moves a a (LastIf (IsSaidBefore bytes bytes))
said_none bytes a = lasts_stay (λ e. record { front = []; split = refl; written = sym (append-nil e.written); heard = refl; left = refl; failed = refl })

-- one more piece
pub said_more : (E : Type 0) (bytes rest : List ℕ) (count : ℕ) (a b c : Option (List Exchange)) → Moves a b (LastIf (IsSaidBefore rest bytes))
    → Moves b c (LastBy (Says {E = E} rest (Ok count)))
    → Moves a c (LastBy (IsSaidBefore (drop count rest) bytes))
said_more E bytes rest count a b c m n = lasts_then (λ old mid new before says. record {
  front = before.front ++ take count rest;
  split = before.split ∙ ap (λ (l : List ℕ). before.front ++ l) (sym (take-append-drop count rest))
      ∙ sym (append_assoc before.front (take count rest) (drop count rest));
  written = ap (λ (x : Exchange). x.written) says ∙ ap (λ (l : List ℕ). l ++ take count rest) before.written
      ∙ append_assoc old.written before.front (take count rest);
  heard = ap (λ (x : Exchange). x.heard) says ∙ before.heard;
  left = ap (λ (x : Exchange). x.left) says ∙ before.left;
  failed = ap (λ (x : Exchange). x.failed) says ∙ before.failed;
}) m n

-- some are left
pub said_so_far : (bytes rest : List ℕ) (a b : Option (List Exchange)) → Moves a b (LastBy (IsSaidBefore rest bytes))
    → Moves a b (LastIf (IsSaidBefore rest bytes))
said_so_far bytes rest a b m = lasts_if m

-- nothing is left
pub said_all : (bytes rest : List ℕ) (a b : Option (List Exchange)) → Moves a b (LastBy (IsSaidBefore rest bytes)) → rest ≡ []
    → Moves a b (LastBy (IsSaid bytes))
said_all bytes rest a b m none = lasts_map (λ old new before. record {
  heard = before.heard;
  left = before.left;
  said = inl (record {
    written = before.written ∙ ap (λ (l : List ℕ). old.written ++ l) (sym
        (before.split ∙ ap (λ (l : List ℕ). before.front ++ l) none ∙ append-nil before.front));
    failed = before.failed;
  });
}) m

pub ruleset sayings = (said_none, said_all, said_so_far)
