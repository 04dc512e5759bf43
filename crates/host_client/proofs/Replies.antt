-- A head that was found, and the one reply that the bytes are.
use Rattle.std.proofs.Common.{◌≡◌, ◌≤◌, ℕ, true, IsTrue, List, length, take, drop, map, refl, sym, ◌∙◌, ap, subst}
use Rattle.std.proofs.lemmas.List.{length-map}
use Rattle.httparse.specs.Grammar.{ResponseHead, status_code}
use Rattle.httparse.specs.Spans.{IsResponseAt, header_bytes, name_and_value}
use Rattle.httparse.specs.declared.spans.HeaderSpan.{HeaderSpan}
use Rattle.httparse.specs.declared.spans.ResponseSpans.{ResponseSpans}
use Rattle.httparse.proofs.GrammarLemmas.{response_unique}
use Rattle.host_client.specs.Reply.{lengths, fits, IsReply}

-- there are as many fields as spans
as_many : (bytes : List ℕ) (headers : List HeaderSpan) (r : ResponseSpans) (h : ResponseHead) → IsResponseAt bytes headers r h
    → length h.fields ≡ length (take r.headers headers)
as_many bytes headers r h at = sym (length-map h.fields name_and_value) ∙ sym (ap length at.fields) ∙ length-map (take r.headers headers) (header_bytes bytes)

-- a head whose fields fit what follows it begins a reply
pub reply_at : (bytes : List ℕ) (headers : List HeaderSpan) (r : ResponseSpans) (h : ResponseHead) (size : ℕ) → length (take r.headers headers) ≤ 64
    → size ≡ length (drop r.len bytes)
    → IsResponseAt bytes headers r h → fits (lengths (map (header_bytes bytes) (take r.headers headers))) size ≡ true → IsReply bytes r.code (drop r.len bytes)
reply_at bytes headers r h size room same at good = record {
  head = h;
  reads = at.reads;
  few = subst (λ n. n ≤ 64) (sym (as_many bytes headers r h at)) room;
  length_fits = subst IsTrue (sym good ∙ ap (λ fields. fits (lengths fields) size) at.fields ∙ ap (λ n. fits (lengths (map name_and_value h.fields)) n) same)
      refl;
  status_is = at.code;
}

-- bytes are one reply at most
pub reply_unique : (bytes : List ℕ) (status other : ℕ) (body rest : List ℕ) → IsReply bytes status body → IsReply bytes other rest
    → (status ≡ other) × (body ≡ rest)
reply_unique bytes status other body rest a b =
    let same = response_unique bytes a.head b.head body rest a.reads b.reads in
    (a.status_is ∙ ap status_code same.0 ∙ sym b.status_is, same.1)
