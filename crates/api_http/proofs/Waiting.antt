-- How many bytes are waited for.
use Rattle.std.proofs.Common.{◌≡◌, ◌≤◌, ◌<◌, ◌+◌, ◌++◌, ℕ, List, [], ◌∷◌, length, take, drop, map, codes}
use Rattle.std.proofs.Common.{Bool, true, false, ◌⊎◌, inl, inr, refl, sym, ap, ◌∙◌, subst, arith, length-append, append-nil}
use Rattle.std.proofs.lemmas.Bool.{cases_lt}
use Rattle.httparse.specs.Grammar.{RequestHead, print_request}
use Rattle.httparse.specs.declared.spans.HeaderSpan.{HeaderSpan}
use Rattle.httparse.specs.declared.spans.RequestSpans.{RequestSpans}
use Rattle.httparse.specs.Spans.{header_bytes, IsRequestOf}
use Rattle.api_http.specs.Heads.{HoldsNoHead, shown}
use Rattle.api_http.specs.Fields.{Field, body_length, has_bad_length, has_field}
use Rattle.api_http.specs.Requests.{Told, told, IsClean, IsCleanHead, bad_length, long_body, transfer_coded, Waits, for_head, for_body, WaitsUntil}
use Rattle.api_http.proofs.OneAnswer.{same_head}
use Rattle.api_http.proofs.Readings.{found_head}
use Rattle.api_http.proofs.Stays.{clean_stays}

-- of a clean head the length is sound
pub sound_fields : (t : Told) → IsClean t → has_bad_length t.fields ≡ false
sound_fields t clean = by (has_bad_length t.fields) refl
  where
    by : (b : Bool) → has_bad_length t.fields ≡ b → has_bad_length t.fields ≡ false
    by true e = absurd (clean _ (bad_length e))
    by false e = e

-- and within the limit
pub short_body : (t : Told) → IsClean t → body_length t.fields ≤ 1048576
short_body t clean = by (cases_lt 1048576 (body_length t.fields))
  where
    by : ((1048576 < body_length t.fields) ⊎ (body_length t.fields ≤ 1048576)) → body_length t.fields ≤ 1048576
    by (inl over) = absurd (clean _ (long_body over))
    by (inr within) = within

-- and the only one
pub plain_fields : (t : Told) → IsClean t → has_field (codes "Transfer-Encoding") t.fields ≡ false
plain_fields t clean = by (has_field (codes "Transfer-Encoding") t.fields) refl
  where
    by : (b : Bool) → has_field (codes "Transfer-Encoding") t.fields ≡ b → has_field (codes "Transfer-Encoding") t.fields ≡ false
    by true e = absurd (clean _ (transfer_coded e))
    by false e = e

-- the head that the parser found, with the length of its body
pub found_size : (bytes part : List ℕ) (headers fields : List HeaderSpan) (r : RequestSpans) (size : ℕ) → part ≡ shown bytes → IsRequestOf part headers r
    → fields ≡ take r.headers headers
    → (has_bad_length (map (header_bytes part) fields) ≡ false → body_length (map (header_bytes part) fields) ≤ 1048576
    → size ≡ body_length (map (header_bytes part) fields))
    → (head : RequestHead) (rest : List ℕ) → IsCleanHead bytes head rest → r.len + size ≡ length (print_request head) + body_length (told head).fields
found_size bytes part headers fields r size part_is at fields_are size_is head rest clean =
    let found = found_head bytes part headers r at.0 part_is at.1 in
    let same = (same_head bytes at.0 head (drop r.len bytes) rest found.0 clean.whole).head in
    let as_told : map (header_bytes part) fields ≡ (told head).fields = ap (map (header_bytes part)) fields_are ∙ at.1.fields
    ∙ ap (λ h. (told h).fields) same in
    let sound = subst (λ (l : List Field). has_bad_length l ≡ false → body_length l ≤ 1048576 → size ≡ body_length l) as_told size_is in
    omega (arith, sound (sound_fields (told head) clean.clean) (short_body (told head) clean.clean), found.1, ap (λ h. length (print_request h)) same)

module _ (bytes : List ℕ) (n : ℕ) (of_head : HoldsNoHead bytes → n ≡ length bytes + 1)
    (of_body : (head : RequestHead) (rest : List ℕ) → IsCleanHead bytes head rest → n ≡ length (print_request head) + body_length (told head).fields) where
  size_of : (head : RequestHead) (rest : List ℕ) → IsCleanHead bytes head rest → length bytes ≡ length (print_request head) + length rest
  size_of head rest clean = ap length clean.whole.reads.1 ∙ length-append (print_request head) rest

  -- more bytes are wanted than there are
  pub wanted_more : Waits bytes → length bytes < n
  wanted_more (for_head none _ _) = omega (arith, of_head none)
  wanted_more (for_body head rest clean short) = omega (arith, of_body head rest clean, size_of head rest clean, short)

  at_once : Waits bytes → (more : List ℕ) → length (bytes ++ more) < length bytes + 1 → Waits (bytes ++ more)
  at_once waits [] short = subst Waits (sym (append-nil bytes)) waits
  at_once waits (b ∷ more) short = absurd (omega (arith, short, length-append bytes (b ∷ more)))

  -- with fewer than are wanted they wait
  pub wanted_waits : Waits bytes → WaitsUntil bytes n
  wanted_waits (for_head none few short) more fewer = at_once (for_head none few short) more (omega (arith, fewer, of_head none))
  wanted_waits (for_body head rest clean short) more fewer =
      for_body head (rest ++ more) (clean_stays bytes more head rest clean)
      (omega (arith, fewer, of_body head rest clean, size_of head rest clean, length-append bytes more, length-append rest more))
