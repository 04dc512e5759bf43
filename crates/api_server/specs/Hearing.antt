-- What is heard on a connection.
use Rattle.std.specs.Prelude.{◌≡◌, ◌≢◌, ◌≤◌, ◌+◌, ◌⊎◌, ⊤, ℕ, true, List, [], ◌++◌, length}
use Rattle.outside.specs.Exchange.{Exchange}
use Rattle.api_http.specs.Requests.{Asks, MayRefuse, Waits}
use Rattle.settings_machine.specs.Asked.{request_of}
use Rattle.settings_machine.specs.Requests.{Request}
use Rattle.api_server.specs.declared.hearing.Heard.{Heard}
use Rattle.api_server.specs.declared.hearing.Heard.TheVariants.{Asked, Refused, Ended, Memory}

-- All of the input of a connection: what was read of it, and what is to come.
abbrev pub input_of : Exchange → List ℕ
input_of e = e.heard ++ e.left

-- The request that the input begins with; why it is refused; that it ends before either, or that a call failed. `Memory`
-- says nothing of it.
abbrev pub Hears : Heard → Exchange → Type 0
Hears (Asked request) e = (n : ℕ) × Asks (input_of e) (request_of request) n
Hears (Refused refusal) e = MayRefuse (input_of e) refusal
Hears Ended e = (Waits (input_of e) × (e.left ≡ [])) ⊎ (e.failed ≡ true)
Hears Memory e = ⊤

-- The input stays, nothing is written, and at most 1,064,960 bytes are read. From the start of a connection this is what its
-- input is. Only where it ended a call may have failed.
pub record IsHeard (heard : Heard) (old new : Exchange) : Type 0 where
  pub input : input_of new ≡ input_of old
  pub written : new.written ≡ old.written
  pub bound : length new.heard ≤ length old.heard + 1064960
  pub hears : old.heard ≡ [] → Hears heard new
  pub failed : heard ≢ Ended → new.failed ≡ old.failed

-- The fact holds of what is asked, if the request is whole.
abbrev pub IfHeard : Heard → (Request → Type 0) → Type 0
IfHeard (Asked request) P = P (request_of request)
IfHeard _ P = ⊤
