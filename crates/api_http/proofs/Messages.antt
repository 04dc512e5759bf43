-- Whole messages, which may be refused.
use Rattle.std.proofs.Common.{◌≡◌, ℕ, List, length, take, drop, map, sym, ap, ◌∙◌, subst, arith}
use Rattle.httparse.specs.Grammar.{RequestHead}
use Rattle.httparse.specs.declared.spans.HeaderSpan.{HeaderSpan}
use Rattle.httparse.specs.declared.spans.RequestSpans.{RequestSpans}
use Rattle.httparse.specs.Spans.{header_bytes, IsRequestOf}
use Rattle.settings_machine.specs.Requests as machine
use Rattle.api_http.specs.Heads.{shown}
use Rattle.api_http.specs.Fields.{Field, body_length, IsBodyWithin}
use Rattle.api_http.specs.Requests.{told, Asks, HoldsMessage, Waits, for_head, for_body}
use Rattle.api_http.proofs.OneAnswer.{same_head}
use Rattle.api_http.proofs.Readings.{found_head}
use Rattle.api_http.proofs.Waiting.{sound_fields, short_body, plain_fields}

-- what is asked is a whole message
pub asked_message : (bytes : List ℕ) (q : machine.Request) (n : ℕ) → Asks bytes q n → HoldsMessage bytes
asked_message bytes q n a = record {
  head = a.head;
  rest = a.rest;
  whole = a.clean.whole;
  body = record {
    sound = sound_fields (told a.head) a.clean.clean;
    plain = plain_fields (told a.head) a.clean.clean;
    short = short_body (told a.head) a.clean.clean;
    there = a.body;
  };
}

-- of a whole message no more bytes are waited for
pub message_not_waiting : (bytes : List ℕ) → HoldsMessage bytes → Waits bytes → ⊥
message_not_waiting bytes m (for_head none _ _) = none m.head m.rest m.whole
message_not_waiting bytes m (for_body h rest clean short) =
    let same = same_head bytes m.head h m.rest rest m.whole clean.whole in
    omega (arith, short, m.body.there, ap (λ k. body_length (told k).fields) same.head, ap length same.behind)

-- the head that the parser found, and what follows it
module _
    (bytes part : List ℕ) (headers fields : List HeaderSpan) (r : RequestSpans) (rest : List ℕ) (part_is : part ≡ shown bytes)
    (at : IsRequestOf part headers r) (fields_are : fields ≡ take r.headers headers) (rest_is : rest ≡ drop r.len bytes) where
  as_told : map (header_bytes part) fields ≡ (told at.0).fields
  as_told = ap (map (header_bytes part)) fields_are ∙ at.1.fields

  -- are a whole message where the fields say so
  pub found_message : IsBodyWithin (map (header_bytes part) fields) (length rest) → HoldsMessage bytes
  found_message within = record {
    head = at.0;
    rest = drop r.len bytes;
    whole = (found_head bytes part headers r at.0 part_is at.1).0;
    body = subst (λ (l : List ℕ). IsBodyWithin (told at.0).fields (length l)) rest_is
        (subst (λ (l : List Field). IsBodyWithin l (length rest)) as_told within);
  }

  -- and nowhere else
  pub message_found : HoldsMessage bytes → IsBodyWithin (map (header_bytes part) fields) (length rest)
  message_found m =
      let same = same_head bytes at.0 m.head (drop r.len bytes) m.rest (found_head bytes part headers r at.0 part_is at.1).0 m.whole in
      let body : IsBodyWithin (told m.head).fields (length rest) =
      subst (λ (l : List ℕ). IsBodyWithin (told m.head).fields (length l)) (sym (rest_is ∙ same.behind)) m.body in
      subst (λ (l : List Field). IsBodyWithin l (length rest)) (sym (as_told ∙ ap (λ h. (told h).fields) same.head)) body
