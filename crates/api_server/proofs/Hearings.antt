-- What was heard, read after read.
use Rattle.std.proofs.Common.{◌≡◌, ◌≤◌, ◌<◌, ℕ, List, [], ◌++◌, length, Option, inl, inr, ⊎_elim, refl, sym, ◌∙◌, ap, subst, arith, length-append}
use Rattle.std.proofs.Common.{append_assoc}
use Rattle.std.proofs.lemmas.List.{append-nil}
use Rattle.outside.specs.Exchange.{Exchange, broken_off}
use Rattle.outside.specs.Door.{LastBy}
use Rattle.outside.specs.Told.{Moves}
use Rattle.settings_machine.specs.declared.request.Request.{Request}
use Rattle.api_http.specs.declared.refusal.Refusal.{Refusal}
use Rattle.api_http.specs.Requests.{Asks, MayRefuse, Waits, WaitsUntil}
use Rattle.settings_machine.specs.Asked.{request_of}
use Rattle.api_server.specs.declared.hearing.Heard.{Heard}
use Rattle.api_server.specs.declared.hearing.Heard.TheVariants.{Asked, Refused, Ended, Memory}
use Rattle.api_server.specs.declared.next.Next.TheVariants as next
use Rattle.api_server.specs.Reading.{IsRead, IsAdded, IsStopped, IsLost, IsLonger, Comes, LastIf}
use Rattle.api_server.specs.Hearing.{input_of, Hears, IsHeard}
use Rattle.api_server.proofs.Lasts.{lasts_stay, lasts_then, lasts_if, lasts_map}
use Rattle.api_server.proofs.Waitings.{waits_here}

-- nothing is read yet
pub added_none : (a : Option (List Exchange)) → Moves a a (LastIf (IsAdded [] []))
added_none a = lasts_stay (λ e. record {
  more = [];
  grown = refl;
  read =
      record { split = refl; heard = sym (append-nil e.heard); written = refl; failed = refl };
})

-- one read after others
read_more : (first then : List ℕ) (old mid new : Exchange) → IsRead first old mid → IsRead then mid new → IsRead (first ++ then) old new
read_more first then old mid new one two = record {
  split = one.split ∙ ap (λ (l : List ℕ). first ++ l) two.split ∙ sym (append_assoc first then new.left);
  heard = two.heard ∙ ap (λ (l : List ℕ). l ++ then) one.heard ∙ append_assoc old.heard first then;
  written = two.written ∙ one.written;
  failed = two.failed ∙ one.failed;
}

pub added_more : (before now : List ℕ) (a b c : Option (List Exchange)) → Moves a b (LastIf (IsAdded [] before)) → Moves b c (LastBy (IsAdded before now))
    → Moves a c (LastBy (IsAdded [] now))
added_more before now a b c m n = lasts_then (λ old mid new one two. record {
  more = one.more ++ two.more;
  grown = two.grown ∙ ap (λ (l : List ℕ). l ++ two.more) one.grown;
  read = read_more one.more two.more old mid new one.read two.read;
}) m n

-- the bytes so far
pub added_so_far : (now : List ℕ) (a b : Option (List Exchange)) → Moves a b (LastBy (IsAdded [] now)) → Moves a b (LastIf (IsAdded [] now))
added_so_far now a b m = lasts_if m

-- what was read is the front of the input
input_read : (bytes : List ℕ) (old new : Exchange) → IsRead bytes old new → input_of new ≡ input_of old
input_read bytes old new read =
    ap (λ (l : List ℕ). l ++ new.left) read.heard ∙ append_assoc old.heard bytes new.left ∙ ap (λ (l : List ℕ). old.heard ++ l) (sym read.split)

from_start : (bytes : List ℕ) (old new : Exchange) → IsRead bytes old new → old.heard ≡ [] → bytes ++ new.left ≡ input_of new
from_start bytes old new read first = ap (λ (l : List ℕ). l ++ new.left) (ap (λ (l : List ℕ). l ++ bytes) (sym first) ∙ sym read.heard)

module _ (heard : Heard) (now : List ℕ) (within : length now ≤ 1064960)
    (comes : (old new : Exchange) → IsRead now old new → old.heard ≡ [] → Hears heard new) where
  one_heard : (old new : Exchange) → IsAdded [] now old new → IsHeard heard old new
  one_heard old new added =
      let read : IsRead now old new = subst (λ (l : List ℕ). IsRead l old new) (sym added.grown) added.read in
      record {
        input = input_read now old new read;
        written = read.written;
        bound = omega (arith, ap length read.heard, length-append old.heard now);
        hears = comes old new read;
        failed = λ _. read.failed;
      }

  all_heard : (a b : Option (List Exchange)) → Moves a b (LastBy (IsAdded [] now)) → Moves a b (LastBy (IsHeard heard))
  all_heard a b m = lasts_map one_heard m

-- a whole request
pub heard_asked : (ask : Request) (before now : List ℕ) (a b : Option (List Exchange)) → IsLonger before now → Comes (next.Asked ask) now
    → Moves a b (LastBy (IsAdded [] now)) → Moves a b (LastBy (IsHeard (Asked ask)))
heard_asked ask before now a b longer comes m = all_heard (Asked ask) now longer.within
    (λ old new read first. subst (λ (l : List ℕ). (n : ℕ) × Asks l (request_of ask) n) (from_start now old new read first) (comes new.left)) a b m

-- a refused one
pub heard_refused : (refusal : Refusal) (before now : List ℕ) (a b : Option (List Exchange)) → IsLonger before now → Comes (next.Refused refusal) now
    → Moves a b (LastBy (IsAdded [] now))
    → Moves a b (LastBy (IsHeard (Refused refusal)))
heard_refused refusal before now a b longer comes m = all_heard (Refused refusal) now longer.within
    (λ old new read first. subst (λ (l : List ℕ). MayRefuse l refusal) (from_start now old new read first) (comes new.left)) a b m

-- no memory to read it
pub heard_memory : (before now : List ℕ) (a b : Option (List Exchange)) → IsLonger before now → Moves a b (LastBy (IsAdded [] now))
    → Moves a b (LastBy (IsHeard Memory))
heard_memory before now a b longer m = all_heard Memory now longer.within (λ old new read first. tt) a b m

-- none to keep what was read
pub heard_lost : (before : List ℕ) (a b c : Option (List Exchange)) → Moves a b (LastIf (IsAdded [] before)) → Moves b c (LastBy (IsLost before))
    → Moves a c (LastBy (IsHeard Memory))
heard_lost before a b c m n = lasts_then (λ old mid new added lost.
    let read : IsRead (before ++ lost.more) old new = read_more before lost.more old mid new
    (subst (λ (l : List ℕ). IsRead l old mid) (sym added.grown) added.read) lost.read in
    record {
      input = input_read (before ++ lost.more) old new read;
      written = read.written;
      bound = omega (arith, lost.within, ap length read.heard, length-append old.heard (before ++ lost.more), length-append before lost.more);
      hears = λ _. tt;
      failed = λ _. read.failed;
    }) m n

-- the input ended, or the call failed
pub heard_ended : (before : List ℕ) (wanted : ℕ) (a b c : Option (List Exchange)) → WaitsUntil before wanted → length before < wanted → wanted ≤ 1064960
    → Moves a b (LastIf (IsAdded [] before))
    → Moves b c (LastBy IsStopped) → Moves a c (LastBy (IsHeard Ended))
heard_ended before wanted a b c until fewer most m n = lasts_then (λ old mid new added stopped.
    let first : IsRead before old mid = subst (λ (l : List ℕ). IsRead l old mid) (sym added.grown) added.read in
    ⊎_elim (at_end old mid new first) (broken old mid new first) stopped) m n
  where
    at_end : (old mid new : Exchange) → IsRead before old mid → IsRead [] mid new × (new.left ≡ []) → IsHeard Ended old new
    at_end old mid new first end =
        let read : IsRead (before ++ []) old new = read_more before [] old mid new first end.0 in
        record {
          input = input_read (before ++ []) old new read;
          written = read.written;
          bound = omega (arith, ap length read.heard, length-append old.heard (before ++ []), length-append before []);
          hears = λ start. inl (
            subst Waits
                (sym (append-nil before) ∙ sym (append-nil (before ++ [])) ∙ ap (λ (l : List ℕ). (before ++ []) ++ l) (sym end.1)
                ∙ from_start (before ++ []) old new read start)
                (waits_here before wanted until fewer),
            end.1,
          );
          failed = λ never. absurd (never refl);
        }

    broken : (old mid new : Exchange) → IsRead before old mid → new ≡ broken_off mid → IsHeard Ended old new
    broken old mid new first is = record {
      input = ap input_of is ∙ input_read before old mid first;
      written = ap (λ (e : Exchange). e.written) is ∙ first.written;
      bound = omega (arith, ap (λ (e : Exchange). length e.heard) is, ap length first.heard, length-append old.heard before);
      hears = λ _. inr (ap (λ (e : Exchange). e.failed) is);
      failed = λ never. absurd (never refl);
    }
