-- What the client reads of replies of the server.
use Rattle.std.specs.Prelude.{◌≡◌, ◌<◌, ◌^◌, ℕ, List, length}
use Rattle.host_client.specs.Reply.{IsReply}
use Rattle.settings_machine.specs.Requests.{Reply}
use Rattle.api_http.specs.Replies.{Sent}
use Rattle.api_http.specs.Says.{Says}

-- What is sent is a reply of its status and body, where its length fits 64 bits.
abbrev pub IsReplied : Sent → Type 0
IsReplied sent = length sent.bytes < 2 ^ 64 → IsReply sent.bytes sent.status sent.body

-- The status and the body are those of a reply that says what the machine replies.
pub record IsHeard (reply : Reply) (status : ℕ) (body : List ℕ) : Type 0 where
  pub sent : Sent
  pub says : Says reply sent
  pub status_is : status ≡ sent.status
  pub body_is : body ≡ sent.body
