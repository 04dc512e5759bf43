-- The text of a question is a head and a body.
use Rattle.std.proofs.Common.{arith, ◌≡◌, ◌≤◌, ◌<◌, ◌^◌, ℕ, Bool, true, false, ◌&&◌, IsTrue, List, [], ◌∷◌}
use Rattle.std.proofs.Common.{◌++◌, length, get_or, reverse, codes, decimal, Option, Some, None, refl, sym, ap, ◌∙◌, append_assoc, leb-true}
use Rattle.std.specs.Char.{is_ascii_digit, is_ascii_uppercase}
use Rattle.std.specs.List.{list_all, starts_with}
use Rattle.std.specs.Option.{unwrap_or}
use Rattle.std.specs.Prelude.{nat_le, nat_eq, All, IsUtf8}
use Rattle.std.specs.Str.Parse.{AllDigits}
use Rattle.std.specs.Cmp.Derive.{both_true}
use Rattle.std.proofs.lemmas.Bool.{cond-false}
use Rattle.std.proofs.lemmas.List.Elements.{All-nil, All-cons}
use Rattle.std.proofs.lemmas.List.Sums.{AllPass-from_list_all, list_all-from_AllPass}
use Rattle.std.proofs.lemmas.Str.{IsUtf8-from_ascii}
use Rattle.std.proofs.lemmas.Str.Ascii.{IsAscii-from_all}
use Rattle.std.proofs.lemmas.Str.Parse.{digit_at}
use Rattle.std.proofs.lemmas.Fmt.{decimal_is_IsNumeral}
use Rattle.httparse.specs.Grammar.{crlf, Field, RequestHead, print_request, IsRequestHead, ReadsRequest, IsField}
use Rattle.httparse.specs.Grammar.{IsToken, AllPass, is_token_byte, is_uri_byte, is_value_byte, skip_ows, trim_ows}
use Rattle.httparse.proofs.OnLiterals.{httparse_on_literals}
use Rattle.httparse.proofs.TrimLemmas.{AllPass-reverse, trim_ows_space}
use Rattle.httparse.proofs.GrammarLemmas.{print_request-append}
use Rattle.host_client.specs.Question.{is_method, is_target, is_target_byte, is_body, is_question, length_fields, ask_text}
use Rattle.client_requests.proofs.Bytes.{pass_also, within, upper_token, digit_in_value, digit_ows, visible, target_range}

-- ---- what is asked

-- the parts of a test
pub split : (a b : Bool) → (a && b) ≡ true → (a ≡ true) × (b ≡ true)
split true b h = (refl, h)
split false b h = cc

-- what can be asked
pub record IsSound (method target : List ℕ) (body : Option (List ℕ)) : Type 0 where
  pub method_some : 1 ≤ length method
  pub method_short : length method ≤ 16
  pub method_upper : list_all is_ascii_uppercase method ≡ true
  pub target_some : 1 ≤ length target
  pub target_short : length target ≤ 8192
  pub target_clean : list_all is_target_byte target ≡ true
  pub body_short : length (unwrap_or body []) ≤ 1048576

begins : (target : List ℕ) → starts_with nat_eq target (codes "/") ≡ true → 1 ≤ length target
begins [] h = cc
begins (b ∷ target) h = omega arith

short_body : (body : Option (List ℕ)) → is_body body ≡ true → length (unwrap_or body []) ≤ 1048576
short_body None h = omega arith
short_body (Some body) h = leb-true _ _ h

pub sound : (m t : List ℕ) (b : Option (List ℕ)) → is_question m t b ≡ true → IsSound m t b
sound m t b h =
    let one = split (is_method m && is_target t) (is_body b) h in
    let two = split (is_method m) (is_target t) one.0 in
    let method = split (nat_le 1 (length m) && nat_le (length m) 16) (list_all is_ascii_uppercase m) two.0 in
    let sizes = split (nat_le 1 (length m)) (nat_le (length m) 16) method.0 in
    let target = split (starts_with nat_eq t (codes "/") && nat_le (length t) 8192) (list_all is_target_byte t) two.1 in
    let front = split (starts_with nat_eq t (codes "/")) (nat_le (length t) 8192) target.0 in
    record {
      method_some = leb-true _ _ sizes.0;
      method_short = leb-true _ _ sizes.1;
      method_upper = method.1;
      target_some = begins t front.0;
      target_short = leb-true _ _ front.1;
      target_clean = target.1;
      body_short = short_body b one.1;
    }

-- ---- the head

abbrev pub host_field : Field
host_field = record { name = codes "Host"; raw = codes " localhost"; end = crlf }

abbrev pub kind_field : Field
kind_field = record { name = codes "Content-Type"; raw = codes " application/json"; end = crlf }

abbrev pub size_field : ℕ → Field
size_field n = record { name = codes "Content-Length"; raw = 32 ∷ decimal n; end = crlf }

abbrev pub close_field : Field
close_field = record { name = codes "Connection"; raw = codes " close"; end = crlf }

-- the fields of the head
abbrev pub fields_of : Option (List ℕ) → List Field
fields_of None = host_field ∷ close_field ∷ []
fields_of (Some body) = host_field ∷ kind_field ∷ size_field (length body) ∷ close_field ∷ []

-- the head
abbrev pub head_of : List ℕ → List ℕ → Option (List ℕ) → RequestHead
head_of m t b = record { blank = []; method = m; target = t; minor = 1; line_end = crlf; fields = fields_of b; last = crlf }

-- the head and what follows it
abbrev pub shown : List ℕ → List ℕ → Option (List ℕ) → List ℕ → List ℕ
shown m t b rest = m ++ 32 ∷ (t ++ (codes " HTTP/1.1\r\nHost: localhost\r\n" ++ (length_fields b ++ (codes "Connection: close\r\n\r\n" ++ rest))))

four : (d x y z r : List ℕ) → (((d ++ x) ++ y) ++ z) ++ r ≡ (d ++ x) ++ ((y ++ z) ++ r)
four d x y z r = simp append_assoc

-- it is printed so
pub printed : (m t : List ℕ) (b : Option (List ℕ)) (rest : List ℕ) → print_request (head_of m t b) ++ rest ≡ shown m t b rest
printed m t None rest = print_request-append (head_of m t None) rest
printed m t (Some body) rest =
    print_request-append (head_of m t (Some body)) rest
    ∙ ap (λ (l : List ℕ). m ++ 32 ∷ (t ++ (codes " HTTP/1.1\r\nHost: localhost\r\nContent-Type: application/json\r\nContent-Length: " ++ l)))
    (four (decimal (length body)) (codes "\r\n") (codes "Connection: close\r\n") (codes "\r\n") rest)

joined : (a b c d e f g : List ℕ) → a ++ b ++ c ++ d ++ e ++ f ++ g ≡ a ++ (b ++ (c ++ (d ++ (e ++ (f ++ g)))))
joined a b c d e f g = simp append_assoc

-- the text is the head and the body
pub text_is : (m t : List ℕ) (b : Option (List ℕ)) → ask_text m t b ≡ print_request (head_of m t b) ++ unwrap_or b []
text_is m t b = joined m _ t _ _ _ (unwrap_or b []) ∙ sym (printed m t b (unwrap_or b []))

-- ---- its grammar

digits_pass : (ds : List ℕ) → AllDigits 10 ds → list_all is_ascii_digit ds ≡ true
digits_pass [] all = refl
digits_pass (c ∷ cs) all = let r = digit_at (c ∷ []) 0 (all.0, tt) (omega arith) in both_true (within 48 57 c r.0 r.1) (digits_pass cs all.1)

-- a decimal is digits
pub decimal_digits : (n : ℕ) → n < 2 ^ 64 → list_all is_ascii_digit (decimal n) ≡ true
decimal_digits n below = digits_pass (decimal n) (decimal_is_IsNumeral n below).0.1

pub literal_values : (value : List ℕ) → list_all is_value_byte value ≡ true → AllPass is_value_byte value
literal_values value h = pass_also is_value_byte is_value_byte (λ b same. same) value h

pub literal_token : (name : List ℕ) → 1 ≤ length name → list_all is_token_byte name ≡ true → IsToken name
literal_token name some h = (omega arith, pass_also is_token_byte is_token_byte (λ b same. same) name h)

pub host : IsField host_field
unfolding httparse_on_literals
host = record { name = literal_token (codes "Host") (omega arith) refl; raw = literal_values (codes " localhost") refl }

pub kind : IsField kind_field
unfolding httparse_on_literals
kind = record { name = literal_token (codes "Content-Type") (omega arith) refl; raw = literal_values (codes " application/json") refl }

pub size : (n : ℕ) → n < 2 ^ 64 → IsField (size_field n)
unfolding httparse_on_literals
size n below = record {
  name = literal_token (codes "Content-Length") (omega arith) refl;
  raw = All-cons (λ b. IsTrue (is_value_byte b)) 32 (decimal n) refl (pass_also is_ascii_digit is_value_byte digit_in_value (decimal n)
      (decimal_digits n below));
}

pub close : IsField close_field
unfolding httparse_on_literals
close = record { name = literal_token (codes "Connection") (omega arith) refl; raw = literal_values (codes " close") refl }

last_field : All IsField (close_field ∷ [])
last_field = All-cons IsField close_field [] close (All-nil IsField)

are_fields : (b : Option (List ℕ)) → length (unwrap_or b []) ≤ 1048576 → All IsField (fields_of b)
are_fields None short = All-cons IsField host_field (close_field ∷ []) host last_field
are_fields (Some body) short =
    let n = length body in
    All-cons IsField host_field (kind_field ∷ size_field n ∷ close_field ∷ []) host
    (All-cons IsField kind_field (size_field n ∷ close_field ∷ []) kind
    (All-cons IsField (size_field n) (close_field ∷ []) (size n (omega (arith, short))) last_field))

is_ascii : (t : List ℕ) → list_all is_target_byte t ≡ true → IsUtf8 t
is_ascii t clean =
    IsUtf8-from_ascii t (IsAscii-from_all t (λ i d lt. let r = target_range (get_or t i d) (AllPass-from_list_all is_target_byte t clean i d lt) in
    omega (arith, r)))

pub is_head : (m t : List ℕ) (b : Option (List ℕ)) → IsSound m t b → IsRequestHead (head_of m t b)
is_head m t b s = record {
  method = (omega (arith, s.method_some), pass_also is_ascii_uppercase is_token_byte upper_token m s.method_upper);
  target = (omega (arith, s.target_some), pass_also is_target_byte is_uri_byte (λ c is. let r = target_range c is in visible c r.0 r.1) t s.target_clean);
  target_text = is_ascii t s.target_clean;
  minor = omega arith;
  fields = are_fields b s.body_short;
}

pub reads : (m t : List ℕ) (b : Option (List ℕ)) → IsSound m t b → ReadsRequest (ask_text m t b) (head_of m t b) (unwrap_or b [])
reads m t b s = (is_head m t b s, text_is m t b)

-- ---- its values

no_ows : (xs : List ℕ) → list_all is_ascii_digit xs ≡ true → skip_ows xs ≡ xs
no_ows [] h = refl
no_ows (b ∷ xs) h = cond-false _ _ _ (digit_ows b (split _ _ h).0)

-- digits after a space are trimmed to digits
pub trimmed : (ds : List ℕ) → list_all is_ascii_digit ds ≡ true → trim_ows (32 ∷ ds) ≡ ds
trimmed ds h =
    let back = list_all-from_AllPass is_ascii_digit (reverse ds) (AllPass-reverse is_ascii_digit ds (AllPass-from_list_all is_ascii_digit ds h)) in
    trim_ows_space ds (no_ows ds h) (no_ows (reverse ds) back)
