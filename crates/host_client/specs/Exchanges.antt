-- What a question does to the exchange with the server.
use Rattle.std.specs.Prelude.{◌≡◌, ◌≤◌, ◌<◌, ℕ, List, [], ◌++◌, length}
use Rattle.outside.specs.Exchange.{Exchange}
use Rattle.host_client.specs.Reply.{IsReply, IsNoReply}

-- The same exchange, with these bytes written.
abbrev pub after_writing : List ℕ → Exchange → Exchange
after_writing bytes e = record { heard = e.heard; left = e.left; written = e.written ++ bytes; failed = e.failed }

-- All of the text was written, and no byte was read.
abbrev pub IsSent : List ℕ → Exchange → Exchange → Type 0
IsSent text old new = new ≡ after_writing text old

-- The text before the rest was written, and no byte was read.
pub record IsSentBefore (rest text : List ℕ) (old new : Exchange) : Type 0 where
  pub front : List ℕ
  pub split : text ≡ front ++ rest
  pub is : IsSent front old new

-- Of all bytes that there are some of the text were written, from the first on.
pub record IsSentInPart (text : List ℕ) (old new : Exchange) : Type 0 where
  pub front : List ℕ
  pub rest : List ℕ
  pub split : text ≡ front ++ rest
  pub written : new.written ≡ old.written ++ front

-- These bytes were read, and none was written.
pub record IsHeard (bytes : List ℕ) (old new : Exchange) : Type 0 where
  pub split : old.left ≡ bytes ++ new.left
  pub heard : new.heard ≡ old.heard ++ bytes
  pub written : new.written ≡ old.written
  pub failed : new.failed ≡ old.failed

-- These bytes were read to the end of the input, and none was written.
pub record IsHeardToEnd (bytes : List ℕ) (old new : Exchange) : Type 0 where
  pub heard : IsHeard bytes old new
  pub end : new.left ≡ []

-- The text was written and these bytes were read.
pub record IsExchanged (text bytes : List ℕ) (old new : Exchange) : Type 0 where
  pub written : new.written ≡ old.written ++ text
  pub heard : new.heard ≡ old.heard ++ bytes
  pub split : old.left ≡ bytes ++ new.left
  pub failed : new.failed ≡ old.failed

-- The text was written and these bytes, at most 16,777,216, were read to the end of the input.
pub record IsWhole (text bytes : List ℕ) (old new : Exchange) : Type 0 where
  pub exchanged : IsExchanged text bytes old new
  pub end : new.left ≡ []
  pub within : length bytes ≤ 16777216

-- The text was written, and the input up to its end is the reply with this status and body.
pub record IsAnswered (status : ℕ) (body text : List ℕ) (old new : Exchange) : Type 0 where
  pub bytes : List ℕ
  pub whole : IsWhole text bytes old new
  pub reply : IsReply bytes status body

-- The text was written, and the input up to its end is no reply.
pub record IsAnsweredBadly (text : List ℕ) (old new : Exchange) : Type 0 where
  pub bytes : List ℕ
  pub whole : IsWhole text bytes old new
  pub none : IsNoReply bytes

-- The text was written, and more than 16,777,216 bytes of the input were read.
pub record IsAnsweredAtLength (text : List ℕ) (old new : Exchange) : Type 0 where
  pub bytes : List ℕ
  pub exchanged : IsExchanged text bytes old new
  pub long : 16777216 < length bytes
