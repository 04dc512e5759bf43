-- The head of a question is whole, and its fields are sound.
use Rattle.std.proofs.Common.{arith, ◌≡◌, ◌≤◌, ◌<◌, ◌+◌, ◌^◌, ℕ, Bool, true, false, ◌&&◌, ◌||◌, not, ◌==◌, List}
use Rattle.std.proofs.Common.{[], ◌∷◌, ◌++◌, length, map, codes, decimal, Option, Some, None, refl, sym, ap, ◌∙◌, append-nil, length-append}
use Rattle.std.specs.Char.{is_ascii_digit, is_ascii_uppercase}
use Rattle.std.specs.List.{list_all}
use Rattle.std.specs.Option.{unwrap_or}
use Rattle.std.specs.Prelude.{nat_lt}
use Rattle.std.specs.Cmp.Derive.{both_true}
use Rattle.std.proofs.lemmas.Bool.{cond-false}
use Rattle.std.proofs.lemmas.Bool.Decides.{nat_tests}
use Rattle.std.proofs.lemmas.Fmt.{decimal_is_IsNumeral, length-decimal-le}
use Rattle.httparse.specs.Grammar.{print_request}
use Rattle.httparse.specs.Spans.{name_and_value}
use Rattle.host_client.specs.Question.{length_fields, ask_text, is_target_byte}
use Rattle.api_http.specs.Heads.{line_feeds, IsWholeHead}
use Rattle.api_http.specs.Fields.{lengths, is_number, has_bad_length, has_field, first_number, body_length}
use Rattle.api_http.specs.Requests.{told}
use Rattle.api_http.proofs.Lines.{mark, line_feeds-nil, line_feeds-cons, line_feeds-append}
use Rattle.client_requests.proofs.Bytes.{digit_no_feed, upper_no_feed, target_no_feed}
use Rattle.client_requests.proofs.Heads.{split, IsSound, fields_of, head_of, shown, printed, reads, decimal_digits, trimmed}

-- ---- its size

head_is : (m t : List ℕ) (b : Option (List ℕ)) → print_request (head_of m t b) ≡ shown m t b []
head_is m t b = sym (append-nil (print_request (head_of m t b))) ∙ printed m t b []

no_feeds : (p : ℕ → Bool) → ((b : ℕ) → p b ≡ true → (b == 10) ≡ false) → (xs : List ℕ) → list_all p xs ≡ true → line_feeds xs ≡ 0
no_feeds p never [] h = line_feeds-nil
no_feeds p never (b ∷ xs) h =
    let parts = split (p b) (list_all p xs) h in
    let here : mark b ≡ 0 = cond-false _ _ _ (never b parts.0) in
    omega (arith, line_feeds-cons b xs, no_feeds p never xs parts.1, here)

front_lines : line_feeds (codes " HTTP/1.1\r\nHost: localhost\r\n") ≡ 2
unfolding line_feeds
front_lines = refl

kind_lines : line_feeds (codes "Content-Type: application/json\r\nContent-Length: ") ≡ 1
unfolding line_feeds
kind_lines = refl

line_end : line_feeds (codes "\r\n") ≡ 1
unfolding line_feeds
line_end = refl

last_lines : line_feeds (codes "Connection: close\r\n\r\n") ≡ 2
unfolding line_feeds
last_lines = refl

space_lines : line_feeds (32 ∷ []) ≡ 0
unfolding line_feeds
space_lines = refl

feeds_three : (a b c : List ℕ) → line_feeds (a ++ b ++ c) ≡ line_feeds a + line_feeds b + line_feeds c
feeds_three a b c = omega (arith, line_feeds-append (a ++ b) c, line_feeds-append a b)

length_lines : (b : Option (List ℕ)) → length (unwrap_or b []) ≤ 1048576 → line_feeds (length_fields b) ≤ 2
length_lines None short = omega (arith, line_feeds-nil)
length_lines (Some body) short =
    let digits = no_feeds is_ascii_digit digit_no_feed (decimal (length body)) (decimal_digits (length body) (omega (arith, short))) in
    omega (arith, feeds_three (codes "Content-Type: application/json\r\nContent-Length: ") (decimal (length body)) (codes "\r\n"), digits, kind_lines, line_end)

feeds_six : (a b c d e f : List ℕ) → line_feeds (a ++ (b ++ (c ++ (d ++ (e ++ f))))) ≡ line_feeds a + line_feeds b + line_feeds c + line_feeds d + line_feeds e
    + line_feeds f
feeds_six a b c d e f =
    omega (
      arith,
      line_feeds-append a (b ++ (c ++ (d ++ (e ++ f)))),
      line_feeds-append b (c ++ (d ++ (e ++ f))),
      line_feeds-append c (d ++ (e ++ f)),
      line_feeds-append d
          (e ++ f),
      line_feeds-append e f,
    )

head_lines : (m t : List ℕ) (b : Option (List ℕ)) → IsSound m t b → line_feeds (print_request (head_of m t b)) ≤ 66
head_lines m t b s =
    let method = no_feeds is_ascii_uppercase upper_no_feed m s.method_upper in
    let target = no_feeds is_target_byte target_no_feed t s.target_clean in
    omega (
      arith,
      ap line_feeds (head_is m t b),
      feeds_six m (32 ∷ []) t (codes " HTTP/1.1\r\nHost: localhost\r\n") (length_fields b)
          (codes "Connection: close\r\n\r\n" ++ []),
      method,
      target,
      space_lines,
      front_lines,
      length_lines b s.body_short,
      last_lines,
    )

length_six : (a b c d e f : List ℕ) → length (a ++ (b ++ (c ++ (d ++ (e ++ f))))) ≡ length a + length b + length c + length d + length e + length f
length_six a b c d e f =
    omega (
      arith,
      length-append a (b ++ (c ++ (d ++ (e ++ f)))),
      length-append b (c ++ (d ++ (e ++ f))),
      length-append c (d ++ (e ++ f)),
      length-append d
          (e ++ f),
      length-append e f,
    )

length_three : (a b c : List ℕ) → length (a ++ b ++ c) ≡ length a + length b + length c
length_three a b c = omega (arith, length-append (a ++ b) c, length-append a b)

length_size : (b : Option (List ℕ)) → length (unwrap_or b []) ≤ 1048576 → length (length_fields b) ≤ 57
length_size None short = omega arith
length_size (Some body) short =
    let digits : length (decimal (length body)) ≤ 7 = length-decimal-le 7 (length body) (omega arith) (omega (arith, short)) (omega (arith, short)) in
    let kind : length (codes "Content-Type: application/json\r\nContent-Length: ") ≡ 48 = refl in
    omega (arith, length_three (codes "Content-Type: application/json\r\nContent-Length: ") (decimal (length body)) (codes "\r\n"), digits, kind)

head_size : (m t : List ℕ) (b : Option (List ℕ)) → IsSound m t b → length (print_request (head_of m t b)) ≤ 16384
head_size m t b s =
    let front : length (codes " HTTP/1.1\r\nHost: localhost\r\n") ≡ 28 = refl in
    let back : length (codes "Connection: close\r\n\r\n" ++ []) ≡ 21 = refl in
    omega (
      arith,
      ap length (head_is m t b),
      length_six m (32 ∷ []) t (codes " HTTP/1.1\r\nHost: localhost\r\n") (length_fields b)
          (codes "Connection: close\r\n\r\n" ++ []),
      front,
      back,
      length_size b s.body_short,
      s.method_short,
      s.target_short,
    )

few : (b : Option (List ℕ)) → length (fields_of b) ≤ 64
few None = omega arith
few (Some body) = omega arith

-- the text of a question begins with a whole head
pub whole : (m t : List ℕ) (b : Option (List ℕ)) → IsSound m t b → IsWholeHead (ask_text m t b) (head_of m t b) (unwrap_or b [])
whole m t b s = record { reads = reads m t b s; fields = few b; lines = head_lines m t b s; size = head_size m t b s }

-- ---- its fields

abbrev values : Option (List ℕ) → List (List ℕ)
values None = []
values (Some body) = decimal (length body) ∷ []

lengths_are : (b : Option (List ℕ)) → length (unwrap_or b []) ≤ 1048576 → lengths (map name_and_value (fields_of b)) ≡ values b
lengths_are None short = refl
lengths_are (Some body) short = ap (λ (v : List ℕ). v ∷ []) (trimmed (decimal (length body)) (decimal_digits (length body) (omega (arith, short))))

sound_values : (b : Option (List ℕ)) → length (unwrap_or b []) ≤ 1048576 → (nat_lt 1 (length (values b)) || not (list_all is_number (values b))) ≡ false
sound_values None short = refl
sound_values (Some body) short =
    let n = length body in
    let below : n < 2 ^ 64 = omega (arith, short) in
    let some : 0 < length (decimal n) = (decimal_is_IsNumeral n below).0.0 in
    let is_some : nat_lt 0 (length (decimal n)) ≡ true = grind (arith, nat_tests) in
    let number : is_number (decimal n) ≡ true = both_true is_some (decimal_digits n below) in
    ap (λ x. not (x && true)) number

module _ (m t : List ℕ) (b : Option (List ℕ)) (s : IsSound m t b) where
  -- no Content-Length is bad
  pub sound_length : has_bad_length (told (head_of m t b)).fields ≡ false
  sound_length = ap (λ vs. nat_lt 1 (length vs) || not (list_all is_number vs)) (lengths_are b s.body_short) ∙ sound_values b s.body_short

  number_is : (b : Option (List ℕ)) → length (unwrap_or b []) ≤ 1048576 → first_number (values b) ≡ length (unwrap_or b [])
  number_is None short = refl
  number_is (Some body) short = (decimal_is_IsNumeral (length body) (omega (arith, short))).1

  -- the length is that of the body
  pub length_is : body_length (told (head_of m t b)).fields ≡ length (unwrap_or b [])
  length_is = ap first_number (lengths_are b s.body_short) ∙ number_is b s.body_short

-- there is no Transfer-Encoding
pub plain : (m t : List ℕ) (b : Option (List ℕ)) → has_field (codes "Transfer-Encoding") (told (head_of m t b)).fields ≡ false
plain m t None = refl
plain m t (Some body) = refl
