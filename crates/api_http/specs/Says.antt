-- Which replies say what the machine replies.
use Rattle.std.specs.Prelude.{◌≡◌, ℕ, List, [], codes}
use Rattle.settings_machine.specs.Requests.{Body, FileIs, Reply, Said, Empty, Refused, NoMemory, DiskFault, NotOpened, refusal_status}
use Rattle.settings_machine.specs.declared.refusal.Refusal.{Refusal}
use Rattle.settings_machine.specs.declared.refusal.Refusal.TheVariants.{BadType, NoKey, NoName, NoPending, NotRendered}
use Rattle.machine_answers.specs.Bodies.{IsTextOf, refusal_text}
use Rattle.api_http.specs.declared.refusal.Refusal.TheVariants as http
use Rattle.api_http.specs.Replies.{Sent, Status, with_body, with_file, done, refused}

-- The phrase of the status of a refusal of the machine.
abbrev pub phrase_of : Refusal → List ℕ
phrase_of (BadType key wanted) = codes "Bad Request"
phrase_of (NoKey key) = codes "Not Found"
phrase_of (NoName name) = codes "Not Found"
phrase_of (NoPending tx) = codes "Unprocessable Content"
phrase_of (NotRendered file error) = codes "Unprocessable Content"

-- The status of a refusal of the machine, with its phrase.
abbrev pub status_line_of : Refusal → Status
status_line_of refusal = (refusal_status refusal, phrase_of refusal)

-- The reply with the status of success and this text of the body: a file is sent as its bytes, and any other as JSON.
abbrev pub sent_as : Body → List ℕ → Sent
sent_as (FileIs bytes) text = with_file text
sent_as _ text = with_body (200, codes "OK") [] text

-- A text of the body is sent with the status of success.
pub record SaysBody (body : Body) (sent : Sent) : Type 0 where
  pub text : List ℕ
  pub is_text : IsTextOf body text
  pub sent_is : sent ≡ sent_as body text

-- What is sent says what the machine replies.
abbrev pub Says : Reply → Sent → Type 0
Says (Said body) sent = SaysBody body sent
Says Empty sent = sent ≡ done
Says (Refused refusal) sent = sent ≡ with_body (status_line_of refusal) [] (refusal_text refusal)
Says NoMemory sent = sent ≡ refused http.Memory
Says DiskFault sent = sent ≡ refused http.DiskFault
Says (NotOpened at) sent = sent ≡ refused (http.Store at)
