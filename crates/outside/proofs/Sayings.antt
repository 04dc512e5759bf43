-- What was said, call after call.
use Rattle.std.proofs.Common.{◌≡◌, ℕ, List, [], ◌++◌, take, drop, Option, Ok, refl, sym, ◌∙◌, ap, append_assoc, take-append-drop}
use Rattle.std.proofs.lemmas.List.{append-nil}
use Rattle.outside.specs.Told.{Moves}
use Rattle.outside.specs.Sink.{Takes}
use Rattle.outside.proofs.Told.{moves_stay, moves_then, moves_map}
use Rattle.outside.specs.Said.{IsSaid, IsSaidBefore, IsSaidInPart}

pub said_none : (bytes : List ℕ) (a : Option (List ℕ)) → Moves a a (IsSaidBefore bytes bytes)
said_none bytes a = moves_stay (λ s. record { front = []; split = refl; is = sym (append-nil s) })

pub said_more : (E : Type 0) (bytes rest : List ℕ) (count : ℕ) (a b c : Option (List ℕ)) → Moves a b (IsSaidBefore rest bytes)
    → Moves b c (Takes {E = E} rest (Ok count)) → Moves a c (IsSaidBefore (drop count rest) bytes)
said_more E bytes rest count a b c m n = moves_then (λ old mid new before takes.
    record {
      front = before.front ++ take count rest;
      split = before.split ∙ ap (λ (l : List ℕ). before.front ++ l) (sym (take-append-drop count rest))
          ∙ sym (append_assoc before.front (take count rest) (drop count rest));
      is = takes ∙ ap (λ (l : List ℕ). l ++ take count rest) before.is ∙ append_assoc old before.front (take count rest);
    }) m n

pub said_all : (bytes rest : List ℕ) (a b : Option (List ℕ)) → Moves a b (IsSaidBefore rest bytes) → rest ≡ [] → Moves a b (IsSaid bytes)
said_all bytes rest a b m none = moves_map (λ old new before.
    record { is = before.is ∙ ap (λ (l : List ℕ). old ++ l) (sym (before.split ∙ ap (λ (l : List ℕ). before.front ++ l) none ∙ append-nil before.front)) }) m

pub said_part : (bytes rest : List ℕ) (a b : Option (List ℕ)) → Moves a b (IsSaidBefore rest bytes) → Moves a b (IsSaidInPart bytes)
said_part bytes rest a b m = moves_map (λ old new before. record { rest = rest; before = before }) m

pub said_both : (bytes more : List ℕ) (a b c : Option (List ℕ)) → Moves a b (IsSaid bytes) → Moves b c (IsSaid more) → Moves a c (IsSaid (bytes ++ more))
said_both bytes more a b c m n = moves_then (λ old mid new first second.
    record { is = second.is ∙ ap (λ (l : List ℕ). l ++ more) first.is ∙ append_assoc old bytes more }) m n

pub said_first_part : (bytes more : List ℕ) (a b : Option (List ℕ)) → Moves a b (IsSaidInPart bytes) → Moves a b (IsSaidInPart (bytes ++ more))
said_first_part bytes more a b m = moves_map (λ old new part.
    record {
      rest = part.rest ++ more;
      before = record {
        front = part.before.front;
        split = ap (λ (l : List ℕ). l ++ more) part.before.split ∙ append_assoc part.before.front part.rest more;
        is = part.before.is;
      };
    }) m

pub said_second_part : (bytes more : List ℕ) (a b c : Option (List ℕ)) → Moves a b (IsSaid bytes) → Moves b c (IsSaidInPart more)
    → Moves a c (IsSaidInPart (bytes ++ more))
said_second_part bytes more a b c m n = moves_then (λ old mid new first part.
    record {
      rest = part.rest;
      before = record {
        front = bytes ++ part.before.front;
        split = ap (λ (l : List ℕ). bytes ++ l) part.before.split ∙ sym (append_assoc bytes part.before.front part.rest);
        is = part.before.is ∙ ap (λ (l : List ℕ). l ++ part.before.front) first.is ∙ append_assoc old bytes part.before.front;
      };
    }) m n

pub ruleset sayings = (said_none, said_all, said_part, said_both, said_first_part, said_second_part)
