-- The text of replies, and those of refusals of HTTP.
use Rattle.std.specs.Prelude.{ℕ, ◌&&◌, nat_le, Bool, true, false, List, [], ◌∷◌, ◌++◌, length, codes, decimal, refl}
use Rattle.std.specs.List.{flat_map}
use Rattle.std.specs.Coded.{Coded, code_by, coded×, coded_ℕ, coded_list}
use Rattle.serde_json.specs.Data.{Data, object}
use Rattle.serde_json.specs.Written.{compact_text}
use Rattle.machine_answers.specs.Bodies.{text_entry, members_of}
use Rattle.api_http.specs.declared.refusal.Refusal.{Refusal}
use Rattle.api_http.specs.declared.refusal.Refusal.TheVariants.{HeadTooLong, Head, NoPath, Method, Query, Length, BodyTooLong, Body, Memory, DiskFault, Store}
use Rattle.api_http.specs.Routes.{methods_of}

-- A reply as it is sent: its status, all its bytes, and its body, which is the end of them.
pub record Sent : Type 0 where
  pub status : ℕ
  pub bytes : List ℕ
  pub body : List ℕ

-- How the logic stores it; no clause cites this.
abbrev pub sent_code : Coded Sent
sent_code =
    code_by (ℕ × (List ℕ × List ℕ)) (coded× coded_ℕ (coded× (coded_list coded_ℕ) (coded_list coded_ℕ))) (λ s. (s.status, (s.bytes, s.body)))
    (λ p. record { status = p.0; bytes = p.1.0; body = p.1.1 }) (λ _. refl)

-- A status with its phrase.
abbrev pub Status : Type 0
Status = ℕ × List ℕ

-- The status of a refusal.
abbrev pub status_of : Refusal → Status
status_of HeadTooLong = (413, codes "Content Too Large")
status_of Head = (400, codes "Bad Request")
status_of NoPath = (404, codes "Not Found")
status_of (Method path) = (405, codes "Method Not Allowed")
status_of Query = (400, codes "Bad Request")
status_of Length = (411, codes "Length Required")
status_of BodyTooLong = (413, codes "Content Too Large")
status_of Body = (400, codes "Bad Request")
status_of Memory = (503, codes "Service Unavailable")
status_of DiskFault = (500, codes "Internal Server Error")
status_of (Store place) = (500, codes "Internal Server Error")

-- Whether a status is one of success.
abbrev pub is_of_success : ℕ → Bool
is_of_success status = nat_le 200 status && nat_le status 299

-- What kind of error it is.
abbrev pub error : List ℕ → List ℕ × Data
error word = text_entry (codes "error", word)

-- The word for a refusal.
abbrev pub word_of : Refusal → List ℕ
word_of HeadTooLong = codes "head-too-long"
word_of Head = codes "head"
word_of NoPath = codes "path"
word_of (Method path) = codes "method"
word_of Query = codes "query"
word_of Length = codes "length"
word_of BodyTooLong = codes "body-too-long"
word_of Body = codes "body"
word_of Memory = codes "memory"
word_of DiskFault = codes "disk"
word_of (Store place) = codes "store"

-- The names of the body of a refusal, with their texts.
abbrev pub entries_of : Refusal → List (List ℕ × Data)
entries_of (Store place) = text_entry (codes "at", place) ∷ error (word_of (Store place)) ∷ []
entries_of refusal = error (word_of refusal) ∷ []

-- The body of a refusal: a compact JSON object.
abbrev pub refusal_text : Refusal → List ℕ
refusal_text refusal = compact_text (object (members_of (entries_of refusal)))

-- Texts joined by comma and space.
abbrev pub listed : List (List ℕ) → List ℕ
listed [] = []
listed (m ∷ ms) = m ++ flat_map (λ n. codes ", " ++ n) ms

-- The field with the methods that a path has, where another was asked for.
abbrev pub allow_field : Refusal → List ℕ
allow_field (Method path) = codes "Allow: " ++ listed (methods_of path) ++ codes "\r\n"
allow_field _ = []

-- The reply with this status, this further field if any, and this body.
abbrev pub with_body : Status → List ℕ → List ℕ → Sent
with_body status field body = record {
  status = status.0;
  bytes = codes "HTTP/1.1 " ++ decimal status.0 ++ codes " " ++ status.1 ++ codes "\r\nContent-Type: application/json\r\nContent-Length: "
      ++ decimal (length body) ++ codes "\r\n" ++ field ++ codes "Connection: close\r\n\r\n" ++ body;
  body = body;
}

-- The reply with HTTP status 200 and the bytes of a file as its body.
abbrev pub with_file : List ℕ → Sent
with_file bytes = record {
  status = 200;
  bytes = codes "HTTP/1.1 200 OK\r\nContent-Type: application/octet-stream\r\nContent-Length: " ++ decimal (length bytes) ++ codes "\r\n"
      ++ codes "Connection: close\r\n\r\n" ++ bytes;
  body = bytes;
}

-- The reply of a refusal.
abbrev pub refused : Refusal → Sent
refused refusal = with_body (status_of refusal) (allow_field refusal) (refusal_text refusal)

-- The reply without a body: it was done.
abbrev pub done : Sent
done = record { status = 204; bytes = codes "HTTP/1.1 204 No Content\r\nConnection: close\r\n\r\n"; body = [] }

-- ---- for private clauses

-- The reply whose head begins with these bytes, and has one more field.
abbrev pub ended : ℕ → List ℕ → List ℕ → Sent
ended status front body = record { status = status; bytes = front ++ codes "Connection: close\r\n\r\n" ++ body; body = body }

-- The texts as they follow, of which the first may be the first of all.
abbrev pub going_on : Bool → List (List ℕ) → List ℕ
going_on true ms = listed ms
going_on false ms = flat_map (λ n. codes ", " ++ n) ms
