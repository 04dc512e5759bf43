-- What came and went on one connection.
use Rattle.std.proofs.Common.{◌≡◌, ◌≤◌, ℕ, List, [], ◌++◌, length, Option, inl, inr, ⊎_elim, sym, ◌∙◌, ap}
use Rattle.std.proofs.Common.{subst, arith}
use Rattle.outside.specs.Exchange.{Exchange, fresh}
use Rattle.outside.specs.Door.{LastBy}
use Rattle.outside.specs.Told.{Moves}
use Rattle.settings_machine.specs.declared.request.Request.{Request}
use Rattle.api_http.specs.declared.refusal.Refusal.{Refusal}
use Rattle.api_http.specs.declared.refusal.Refusal.TheVariants as refusal
use Rattle.settings_machine.specs.Asked.{request_of}
use Rattle.api_http.specs.Replies.{Sent, refused}
use Rattle.settings_machine.specs.Requests.{Reply}
use Rattle.api_http.specs.Requests.{Asks, MayRefuse}
use Rattle.api_server.specs.Hearing.{input_of, Hears, IsHeard}
use Rattle.api_server.specs.Saying.{IsSaid, IsSaidWhole, IsSaidInPart}
use Rattle.api_server.specs.declared.hearing.Heard.{Heard}
use Rattle.api_server.specs.declared.hearing.Heard.TheVariants as heard
use Rattle.api_server.proofs.Lasts.{lasts_if, lasts_then, lasts_map}
use Rattle.api_http.specs.Says.{Says}
use Rattle.api_server.specs.Exchanged.{Said, Nothing, OutOfMemory, Unread, Replied, Wrote, Exchanges, IsServed}

-- What was said on a connection to which nothing was written before.
wrote : (text : List ℕ) (old new : Exchange) → old.written ≡ [] → IsSaid text old new → Wrote new text
wrote text old new none said = ⊎_elim whole part said.said where
  whole : IsSaidWhole text old new → Wrote new text
  whole w = inl (w.written ∙ ap (λ (l : List ℕ). l ++ text) none)

  part : IsSaidInPart text old new → Wrote new text
  part p = inr (record {
    rest = p.rest;
    split = p.split ∙ ap (λ (l : List ℕ). l ++ p.rest) (sym (p.written ∙ ap (λ (l : List ℕ). l ++ p.front) none));
    failed = p.failed;
  })

-- The input stays while the reply is written.
same_input : (text : List ℕ) (old new : Exchange) → IsSaid text old new → input_of new ≡ input_of old
same_input text old new said = ap (λ (l : List ℕ). l ++ new.left) said.heard ∙ ap (λ (l : List ℕ). old.heard ++ l) said.left

-- From where the connection was accepted.
module _ (h : Heard) (input : List ℕ) (first mid : Exchange) (start : first ≡ fresh input) (is : IsHeard h first mid) where
  nothing_heard : first.heard ≡ []
  nothing_heard = ap (λ (e : Exchange). e.heard) start

  nothing_written : mid.written ≡ []
  nothing_written = is.written ∙ ap (λ (e : Exchange). e.written) start

  whole_input : input_of mid ≡ input
  whole_input = is.input ∙ ap input_of start

  within : length mid.heard ≤ 1064960
  within = omega (arith, is.bound, ap length nothing_heard)

-- Nothing was asked.
pub served_nothing : (a b : Option (List Exchange)) → Moves a b (LastBy (IsHeard heard.Ended)) → Moves a b (LastBy (IsServed Nothing))
served_nothing a b m = lasts_map (λ first new is. record {
  from_start = λ input start. (
    record {
      bound = within heard.Ended input first new start is;
      bytes = (nothing_written heard.Ended input first new start is, is.hears (nothing_heard heard.Ended input first new start is));
    },
    whole_input heard.Ended input first new start is,
  );
}) m

-- Something was heard, and then a reply written.
module _ (h : Heard) (said : Said) (text : List ℕ) (exchanges : (mid new : Exchange) → IsSaid text mid new → Wrote new text → Hears h mid
    → Exchanges new said) where
  one_served : (first mid new : Exchange) → IsHeard h first mid → IsSaid text mid new → IsServed said first new
  one_served first mid new is wrote_it = record {
    from_start = λ input start. (
      record {
        bound = omega (arith, within h input first mid start is, ap length wrote_it.heard);
        bytes = exchanges mid new wrote_it (wrote text mid new (nothing_written h input first mid start is) wrote_it)
            (is.hears (nothing_heard h input first mid start is));
      },
      same_input text mid new wrote_it ∙ whole_input h input first mid start is,
    );
  }

  served_said : (a b c : Option (List Exchange)) → Moves a b (LastBy (IsHeard h)) → Moves b c (LastBy (IsSaid text)) → Moves a c (LastBy (IsServed said))
  served_said a b c m n = lasts_then one_served (lasts_if m) n

-- There was no memory.
pub served_memory : (text : List ℕ) → text ≡ (refused refusal.Memory).bytes → (a b c : Option (List Exchange)) → Moves a b (LastBy (IsHeard heard.Memory))
    → Moves b c (LastBy (IsSaid text))
    → Moves a c (LastBy (IsServed OutOfMemory))
served_memory text is a b c m n = served_said heard.Memory OutOfMemory text (λ mid new said wrote_it hears. subst (Wrote new) is wrote_it) a b c m n

-- It was refused in reading, and there was no memory for its reply.
pub served_unprinted : (r : Refusal) (text : List ℕ) → text ≡ (refused refusal.Memory).bytes → (a b c : Option (List Exchange))
    → Moves a b (LastBy (IsHeard (heard.Refused r)))
    → Moves b c (LastBy (IsSaid text)) → Moves a c (LastBy (IsServed OutOfMemory))
served_unprinted r text is a b c m n = served_said (heard.Refused r) OutOfMemory text (λ mid new said wrote_it hears. subst (Wrote new) is wrote_it) a b c m n

-- It was refused in reading.
pub served_unread : (r : Refusal) (text : List ℕ) → text ≡ (refused r).bytes → (a b c : Option (List Exchange)) → Moves a b (LastBy (IsHeard (heard.Refused r)))
    → Moves b c (LastBy (IsSaid text))
    → Moves a c (LastBy (IsServed (Unread r)))
served_unread r text is a b c m n = served_said (heard.Refused r) (Unread r) text
    (λ mid new said wrote_it hears. (subst (λ (l : List ℕ). MayRefuse l r) (sym (same_input text mid new said)) hears, subst (Wrote new) is wrote_it)) a b c m n

-- It was asked and replied.
pub served_replied : (ask : Request) (reply : Reply) (sent : Sent) (text : List ℕ) → text ≡ sent.bytes → Says reply sent → (a b c : Option (List Exchange))
    → Moves a b (LastBy (IsHeard (heard.Asked ask)))
    → Moves b c (LastBy (IsSaid text)) → Moves a c (LastBy (IsServed (Replied (request_of ask) reply)))
served_replied ask reply sent text is says a b c m n = served_said (heard.Asked ask) (Replied (request_of ask) reply) text
    (λ mid new said wrote_it hears. record {
      size = hears.0;
      asks = subst (λ (l : List ℕ). Asks l (request_of ask) hears.0) (sym (same_input text mid new said)) hears.1;
      sent = sent;
      says = says;
      wrote = subst (Wrote new) is wrote_it;
    }) a b c m n
