-- A reply of the server is a reply for the client.
use Rattle.std.proofs.Common.{arith, ◌≡◌, ◌≤◌, ◌<◌, ◌^◌, ℕ, zero, suc, Bool, true, false, ◌==◌, IsTrue, List, []}
use Rattle.std.proofs.Common.{◌∷◌, ◌++◌, length, map, codes, decimal, Option, Some, None, refl, sym, ap, ◌∙◌, subst, append_assoc, length-append}
use Rattle.std.specs.Char.{is_ascii_digit}
use Rattle.std.specs.List.{list_all, flat_map}
use Rattle.std.specs.Option.{unwrap_or}
use Rattle.std.specs.Prelude.{All, nat_lt}
use Rattle.std.specs.Str.{bytes_eq}
use Rattle.std.specs.Cmp.Derive.{both_true}
use Rattle.std.proofs.lemmas.Bool.Decides.{nat_tests}
use Rattle.std.proofs.lemmas.Int.Digits.{digits_value-lt}
use Rattle.std.proofs.lemmas.List.Elements.{All-nil, All-cons}
use Rattle.std.proofs.lemmas.List.Folds.{list_all-append}
use Rattle.std.proofs.lemmas.List.Sums.{AllPass-from_list_all}
use Rattle.std.proofs.lemmas.Fmt.{decimal_is_IsNumeral, length-decimal-le}
use Rattle.httparse.specs.Grammar.{crlf, Field, ResponseHead, print_response, IsField, is_value_byte}
use Rattle.httparse.specs.Spans.{name_and_value}
use Rattle.httparse.proofs.OnLiterals.{httparse_on_literals}
use Rattle.httparse.proofs.GrammarLemmas.{print_response-append}
use Rattle.host_client.specs.Reply.{lengths, is_number, fits, IsReply}
use Rattle.settings_machine.specs.Requests.{FileIs, Reply, Said, Empty, Refused, NoMemory, NotOpened}
use Rattle.settings_machine.specs.Requests as machine
use Rattle.settings_machine.specs.declared.refusal.Refusal.{Refusal as Told}
use Rattle.settings_machine.specs.declared.refusal.Refusal.TheVariants.{BadType, NoKey, NoName, NoPending, NotRendered}
use Rattle.machine_answers.specs.Bodies as text
use Rattle.api_http.specs.declared.refusal.Refusal.{Refusal}
use Rattle.api_http.specs.declared.refusal.Refusal.TheVariants.{HeadTooLong, Head, NoPath, Method, Query, Length, BodyTooLong, Body, Memory, DiskFault, Store}
use Rattle.api_http.specs.Routes.{Row, rows, methods_in, methods_of}
use Rattle.api_http.specs.Replies.{Sent, Status, status_of, listed, allow_field, with_body, with_file, refusal_text, refused}
use Rattle.api_http.specs.Says.{Says, sent_as, status_line_of}
use Rattle.client_requests.specs.Answered.{IsReplied, IsHeard}
use Rattle.client_requests.proofs.Heads.{split, kind_field, size_field, close_field, kind, size, close, literal_token, literal_values, decimal_digits, trimmed}

-- ---- the methods of a path

abbrev AreValues : List (List ℕ) → Type 0
AreValues ms = list_all (λ m. list_all is_value_byte m) ms ≡ true

joined_values : (a b : List ℕ) → list_all is_value_byte a ≡ true → list_all is_value_byte b ≡ true → list_all is_value_byte (a ++ b) ≡ true
joined_values a b one two = list_all-append is_value_byte a b ∙ both_true one two

behind_values : (ms : List (List ℕ)) → AreValues ms → list_all is_value_byte (flat_map (λ n. codes ", " ++ n) ms) ≡ true
behind_values [] h = refl
behind_values (m ∷ ms) h =
    let parts = split (list_all is_value_byte m) (list_all (λ m. list_all is_value_byte m) ms) h in
    joined_values (codes ", " ++ m) (flat_map (λ n. codes ", " ++ n) ms) (joined_values (codes ", ") m refl parts.0) (behind_values ms parts.1)

listed_values : (ms : List (List ℕ)) → AreValues ms → list_all is_value_byte (listed ms) ≡ true
listed_values [] h = refl
listed_values (m ∷ ms) h =
    let parts = split (list_all is_value_byte m) (list_all (λ m. list_all is_value_byte m) ms) h in
    joined_values m (flat_map (λ n. codes ", " ++ n) ms) parts.0 (behind_values ms parts.1)

methods_values : (table : List Row) (path : List ℕ) → list_all (λ (r : Row). list_all is_value_byte r.1) table ≡ true → AreValues (methods_in table path)
methods_values [] path h = refl
methods_values (row ∷ table) path h =
    let parts = split (list_all is_value_byte row.1) (list_all (λ (r : Row). list_all is_value_byte r.1) table) h in
    by parts.0 (methods_values table path parts.1) (bytes_eq row.0 path) refl
  where
    by : list_all is_value_byte row.1 ≡ true → AreValues (methods_in table path) → (same : Bool) → bytes_eq row.0 path ≡ same
        → AreValues (methods_in (row ∷ table) path)
    by here later true is = rw is (both_true here later)
    by here later false is = rw is later

-- ---- a reply with a body

-- the field of the methods, if there is one
abbrev allow_fields : Option (List ℕ) → List Field
allow_fields None = []
allow_fields (Some value) = record { name = codes "Allow"; raw = 32 ∷ value; end = crlf } ∷ []

abbrev allow_text : Option (List ℕ) → List ℕ
allow_text None = []
allow_text (Some value) = codes "Allow: " ++ value ++ codes "\r\n"

abbrev head_of : ℕ → List ℕ → Option (List ℕ) → ℕ → ResponseHead
head_of status phrase allow n = record {
  blank = [];
  minor = 1;
  digits = decimal status;
  reason = Some phrase;
  line_end = crlf;
  fields = kind_field ∷ size_field n ∷ (allow_fields allow ++ close_field ∷ []);
  last = crlf;
}

abbrev text_of : ℕ → List ℕ → Option (List ℕ) → List ℕ → List ℕ
text_of status phrase allow body =
    codes "HTTP/1.1 " ++ (decimal status ++ (codes " " ++ (phrase ++ (codes "\r\nContent-Type: application/json\r\nContent-Length: "
    ++ (decimal (length body) ++ (codes "\r\n" ++ (allow_text allow ++ (codes "Connection: close\r\n\r\n" ++ body))))))))

regroup : (d x y z r : List ℕ) → (((d ++ x) ++ y) ++ z) ++ r ≡ d ++ (x ++ ((y ++ z) ++ r))
regroup d x y z r = simp append_assoc

regroup_more : (d x a v y z r : List ℕ) → (((d ++ x) ++ ((a ++ (v ++ x)) ++ y)) ++ z) ++ r ≡ d ++ (x ++ (((a ++ v) ++ x) ++ ((y ++ z) ++ r)))
regroup_more d x a v y z r = simp append_assoc

printed : (status : ℕ) (phrase : List ℕ) (allow : Option (List ℕ)) (body : List ℕ)
    → print_response (head_of status phrase allow (length body)) ++ body ≡ text_of status phrase allow body
printed status phrase None body =
    print_response-append (head_of status phrase None (length body)) body
    ∙ ap (λ (l : List ℕ). codes "HTTP/1.1 " ++ (decimal status ++ 32 ∷ (phrase ++ (codes "\r\nContent-Type: application/json\r\nContent-Length: " ++ l))))
    (regroup (decimal (length body)) (codes "\r\n") (codes "Connection: close\r\n") (codes "\r\n") body)
printed status phrase (Some value) body =
    print_response-append (head_of status phrase (Some value) (length body)) body
    ∙ ap (λ (l : List ℕ). codes "HTTP/1.1 " ++ (decimal status ++ 32 ∷ (phrase ++ (codes "\r\nContent-Type: application/json\r\nContent-Length: " ++ l))))
    (regroup_more (decimal (length body)) (codes "\r\n") (codes "Allow: ") value (codes "Connection: close\r\n") (codes "\r\n") body)

allow_is : (value : List ℕ) → list_all is_value_byte value ≡ true → IsField (record { name = codes "Allow"; raw = 32 ∷ value; end = crlf })
unfolding httparse_on_literals
allow_is value pass = record {
  name = literal_token (codes "Allow") (omega arith) refl;
  raw = All-cons (λ b. IsTrue (is_value_byte b)) 32 value refl (AllPass-from_list_all is_value_byte value pass);
}

are_fields : (n : ℕ) (allow : Option (List ℕ)) → n < 2 ^ 64 → list_all is_value_byte (unwrap_or allow []) ≡ true
    → All IsField (kind_field ∷ size_field n ∷ (allow_fields allow ++ close_field ∷ []))
are_fields n None below pass =
    All-cons IsField kind_field (size_field n ∷ close_field ∷ []) kind
    (All-cons IsField (size_field n) (close_field ∷ []) (size n below) (All-cons IsField close_field [] close (All-nil IsField)))
are_fields n (Some value) below pass =
    let allowed : Field = record { name = codes "Allow"; raw = 32 ∷ value; end = crlf } in
    All-cons IsField kind_field (size_field n ∷ allowed ∷ close_field ∷ []) kind
    (All-cons IsField (size_field n) (allowed ∷ close_field ∷ []) (size n below)
    (All-cons IsField allowed (close_field ∷ []) (allow_is value pass) (All-cons IsField close_field [] close (All-nil IsField))))

lengths_are : (n : ℕ) (allow : Option (List ℕ)) → n < 2 ^ 64 → lengths
    (map name_and_value (kind_field ∷ size_field n ∷ (allow_fields allow ++ close_field ∷ []))) ≡ decimal n ∷ []
lengths_are n None below = ap (λ (v : List ℕ). v ∷ []) (trimmed (decimal n) (decimal_digits n below))
lengths_are n (Some value) below = ap (λ (v : List ℕ). v ∷ []) (trimmed (decimal n) (decimal_digits n below))

few : (n : ℕ) (allow : Option (List ℕ)) → length (kind_field ∷ size_field n ∷ (allow_fields allow ++ close_field ∷ [])) ≤ 64
few n None = omega arith
few n (Some value) = omega arith

same_number : (n : ℕ) → (n == n) ≡ true
same_number n = grind (arith, nat_tests)

fitting : (n : ℕ) → n < 2 ^ 64 → fits (decimal n ∷ []) n ≡ true
fitting n below =
    let numeral = decimal_is_IsNumeral n below in
    let some : 0 < length (decimal n) = numeral.0.0 in
    let is_some : nat_lt 0 (length (decimal n)) ≡ true = grind (arith, nat_tests) in
    let number : is_number (decimal n) ≡ true = both_true is_some (decimal_digits n below) in
    both_true number (ap (λ k. k == n) numeral.1 ∙ same_number n)

more_digits : (n k : ℕ) → 100 ≤ n → n < 10 ^ k → 3 ≤ k
more_digits n zero low h = omega (arith, low, h)
more_digits n (suc zero) low h = omega (arith, low, h)
more_digits n (suc (suc zero)) low h = omega (arith, low, h)
more_digits n (suc (suc (suc k))) low h = omega arith

three_digits : (n : ℕ) → 100 ≤ n → n < 1000 → length (decimal n) ≡ 3
three_digits n low high =
    let below : n < 2 ^ 64 = omega arith in
    let numeral = decimal_is_IsNumeral n below in
    let value = subst (λ v. v < 10 ^ length (decimal n)) numeral.1 (digits_value-lt 10 (decimal n) numeral.0.1) in
    omega (arith, more_digits n (length (decimal n)) low value, length-decimal-le 3 n (omega arith) high below)

-- three digits of a status, and a phrase
record IsStatus (status : Status) : Type 0 where
  low : 100 ≤ status.0
  high : status.0 < 1000
  phrase : list_all is_value_byte status.1 ≡ true

is_reply : (status : Status) (allow : Option (List ℕ)) (body : List ℕ) → IsStatus status → list_all is_value_byte (unwrap_or allow []) ≡ true
    → length body < 2 ^ 64
    → IsReply (text_of status.0 status.1 allow body) status.0 body
is_reply status allow body s pass below = record {
  head = head_of status.0 status.1 allow (length body);
  reads = (
    record {
      minor = omega arith;
      digits = (three_digits status.0 s.low s.high, AllPass-from_list_all is_ascii_digit (decimal status.0) (decimal_digits status.0 (omega (arith, s.high))));
      reason = AllPass-from_list_all is_value_byte status.1 s.phrase;
      fields = are_fields (length body) allow below pass;
    },
    sym (printed status.0 status.1 allow body),
  );
  few = few (length body) allow;
  length_fits = ap (λ vs. fits vs (length body)) (lengths_are (length body) allow below) ∙ fitting (length body) below;
  status_is = sym (decimal_is_IsNumeral status.0 (omega (arith, s.high))).1;
}

joined : (a b c d e f g h i j : List ℕ) → a ++ b ++ c ++ d ++ e ++ f ++ g ++ h ++ i ++ j ≡ a ++ (b ++ (c ++ (d ++ (e ++ (f ++ (g ++ (h ++ (i ++ j))))))))
joined a b c d e f g h i j = simp append_assoc

with_reply : (status : Status) (allow : Option (List ℕ)) (body : List ℕ) → IsStatus status → list_all is_value_byte (unwrap_or allow []) ≡ true
    → length body < 2 ^ 64
    → IsReply (with_body status (allow_text allow) body).bytes status.0 body
with_reply status allow body s pass below =
    subst (λ (l : List ℕ). IsReply l status.0 body)
    (sym (joined (codes "HTTP/1.1 ") (decimal status.0) (codes " ") status.1 (codes "\r\nContent-Type: application/json\r\nContent-Length: ")
    (decimal (length body)) (codes "\r\n") (allow_text allow) (codes "Connection: close\r\n\r\n") body))
    (is_reply status allow body s pass below)

-- ---- each answer

abbrev allowed : Refusal → Option (List ℕ)
allowed (Method path) = Some (listed (methods_of path))
allowed _ = None

allowed_is : (r : Refusal) → allow_field r ≡ allow_text (allowed r)
allowed_is (Method path) = refl
allowed_is _ = refl

allowed_values : (r : Refusal) → list_all is_value_byte (unwrap_or (allowed r) []) ≡ true
allowed_values (Method path) = listed_values (methods_of path) (methods_values rows path refl)
allowed_values _ = refl

is_status : (r : Refusal) → IsStatus (status_of r)
is_status HeadTooLong = record { low = omega arith; high = omega arith; phrase = refl }
is_status Head = record { low = omega arith; high = omega arith; phrase = refl }
is_status NoPath = record { low = omega arith; high = omega arith; phrase = refl }
is_status (Method path) = record { low = omega arith; high = omega arith; phrase = refl }
is_status Query = record { low = omega arith; high = omega arith; phrase = refl }
is_status Length = record { low = omega arith; high = omega arith; phrase = refl }
is_status BodyTooLong = record { low = omega arith; high = omega arith; phrase = refl }
is_status Body = record { low = omega arith; high = omega arith; phrase = refl }
is_status Memory = record { low = omega arith; high = omega arith; phrase = refl }
is_status DiskFault = record { low = omega arith; high = omega arith; phrase = refl }
is_status (Store place) = record { low = omega arith; high = omega arith; phrase = refl }

told_status : (r : Told) → IsStatus (status_line_of r)
told_status (BadType key wanted) = record { low = omega arith; high = omega arith; phrase = refl }
told_status (NoKey key) = record { low = omega arith; high = omega arith; phrase = refl }
told_status (NoName name) = record { low = omega arith; high = omega arith; phrase = refl }
told_status (NoPending tx) = record { low = omega arith; high = omega arith; phrase = refl }
told_status (NotRendered file error) = record { low = omega arith; high = omega arith; phrase = refl }

abbrev empty_head : ResponseHead
empty_head = record { blank = []; minor = 1; digits = codes "204"; reason = Some (codes "No Content"); line_end = crlf; fields = close_field ∷ []; last = crlf }

empty_reply : IsReply (codes "HTTP/1.1 204 No Content\r\nConnection: close\r\n\r\n") 204 []
unfolding httparse_on_literals
empty_reply = record {
  head = empty_head;
  reads = (
    record {
      minor = omega arith;
      digits = (refl, AllPass-from_list_all is_ascii_digit (codes "204") refl);
      reason = AllPass-from_list_all is_value_byte (codes "No Content") refl;
      fields = All-cons IsField close_field [] close (All-nil IsField);
    },
    refl,
  );
  few = omega arith;
  length_fits = refl;
  status_is = refl;
}

shorter : (status : Status) (field body : List ℕ) → length (with_body status field body).bytes < 2 ^ 64 → length body < 2 ^ 64
shorter status field body h =
    let front =
    codes "HTTP/1.1 " ++ decimal status.0 ++ codes " " ++ status.1 ++ codes "\r\nContent-Type: application/json\r\nContent-Length: " ++ decimal
    (length body) ++ codes "\r\n" ++ field ++ codes "Connection: close\r\n\r\n" in
    omega (arith, h, length-append front body)

-- a refusal of HTTP is a reply of its status and body
pub refused_replied : (r : Refusal) → IsReplied (refused r)
refused_replied r below =
    let fields = ap (λ (l : List ℕ). (with_body (status_of r) l (refusal_text r)).bytes) (allowed_is r) in
    subst (λ (l : List ℕ). IsReply l (status_of r).0 (refusal_text r)) (sym fields)
    (with_reply (status_of r) (allowed r) (refusal_text r) (is_status r) (allowed_values r) (shorter (status_of r) (allow_field r) (refusal_text r) below))

plain_replied : (status : Status) (body : List ℕ) → IsStatus status → IsReplied (with_body status [] body)
plain_replied status body is below = with_reply status None body is refl (shorter status [] body below)

-- ---- a file

abbrev file_field : Field
file_field = record { name = codes "Content-Type"; raw = codes " application/octet-stream"; end = crlf }

is_file_field : IsField file_field
unfolding httparse_on_literals
is_file_field = record { name = literal_token (codes "Content-Type") (omega arith) refl; raw = literal_values (codes " application/octet-stream") refl }

abbrev file_head : ℕ → ResponseHead
file_head n = record {
  blank = [];
  minor = 1;
  digits = codes "200";
  reason = Some (codes "OK");
  line_end = crlf;
  fields = file_field ∷ size_field n ∷ close_field ∷ [];
  last = crlf;
}

file_joined : (a d x c r : List ℕ) → a ++ d ++ x ++ c ++ r ≡ a ++ (d ++ (x ++ (c ++ r)))
file_joined a d x c r = simp append_assoc

file_printed : (bytes : List ℕ) → print_response (file_head (length bytes)) ++ bytes ≡ (with_file bytes).bytes
file_printed bytes =
    print_response-append (file_head (length bytes)) bytes
    ∙ ap (λ (l : List ℕ). codes "HTTP/1.1 200 OK\r\nContent-Type: application/octet-stream\r\nContent-Length: " ++ l)
    (regroup (decimal (length bytes)) (codes "\r\n") (codes "Connection: close\r\n") (codes "\r\n") bytes)
    ∙ sym (file_joined (codes "HTTP/1.1 200 OK\r\nContent-Type: application/octet-stream\r\nContent-Length: ") (decimal (length bytes)) (codes "\r\n")
    (codes "Connection: close\r\n\r\n") bytes)

file_fields : (n : ℕ) → n < 2 ^ 64 → All IsField (file_field ∷ size_field n ∷ close_field ∷ [])
file_fields n below =
    All-cons IsField file_field (size_field n ∷ close_field ∷ []) is_file_field
    (All-cons IsField (size_field n) (close_field ∷ []) (size n below) (All-cons IsField close_field [] close (All-nil IsField)))

-- a file is a reply of its bytes
file_replied : (bytes : List ℕ) → IsReplied (with_file bytes)
unfolding httparse_on_literals
file_replied bytes below =
    let front = codes "HTTP/1.1 200 OK\r\nContent-Type: application/octet-stream\r\nContent-Length: " ++ decimal (length bytes) ++ codes "\r\n"
    ++ codes "Connection: close\r\n\r\n" in
    let short : length bytes < 2 ^ 64 = omega (arith, below, length-append front bytes) in
    record {
      head = file_head (length bytes);
      reads = (
        record {
          minor = omega arith;
          digits = (refl, AllPass-from_list_all is_ascii_digit (codes "200") refl);
          reason = AllPass-from_list_all is_value_byte (codes "OK") refl;
          fields = file_fields (length bytes) short;
        },
        sym (file_printed bytes),
      );
      few = omega arith;
      length_fits = ap (λ vs. fits vs (length bytes)) (ap (λ (v : List ℕ). v ∷ []) (trimmed (decimal (length bytes)) (decimal_digits (length bytes) short)))
          ∙ fitting (length bytes) short;
      status_is = refl;
    }

-- what is sent of a body is a reply of it
sent_replied : (body : machine.Body) (text : List ℕ) → IsReplied (sent_as body text)
sent_replied (FileIs bytes) text = file_replied text
sent_replied _ text = plain_replied (200, codes "OK") text (record { low = omega arith; high = omega arith; phrase = refl })

-- what says a reply of the machine is a reply of its status and body
pub said_replied : (r : Reply) (sent : Sent) → Says r sent → IsReplied sent
said_replied (Said body) sent says = subst IsReplied (sym says.sent_is) (sent_replied body says.text)
said_replied Empty sent is = subst IsReplied (sym is) (λ _. empty_reply)
said_replied (Refused r) sent is = subst IsReplied (sym is) (plain_replied (status_line_of r) (text.refusal_text r) (told_status r))
said_replied NoMemory sent is = subst IsReplied (sym is) (refused_replied Memory)
said_replied machine.DiskFault sent is = subst IsReplied (sym is) (refused_replied DiskFault)
said_replied (NotOpened at) sent is = subst IsReplied (sym is) (refused_replied (Store at))

-- so are the bytes that it is printed to
pub read_back : (sent : Sent) (bytes : List ℕ) → bytes ≡ sent.bytes → length bytes < 2 ^ 64 → IsReplied sent → IsReply bytes sent.status sent.body
read_back sent bytes is below replied =
    subst (λ (l : List ℕ). IsReply l sent.status sent.body) (sym is) (replied (subst (λ (l : List ℕ). length l < 2 ^ 64) is below))

-- what has its status and its body is heard
pub heard : (r : Reply) (sent : Sent) (status : ℕ) (body : List ℕ) → Says r sent → (status ≡ sent.status) × (body ≡ sent.body) → IsHeard r status body
heard r sent status body says (status_is, body_is) = record { sent = sent; says = says; status_is = status_is; body_is = body_is }
