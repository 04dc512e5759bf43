-- For private clauses: what reads of a connection do, and what the bytes come to.
use Rattle.std.specs.Prelude.{◌≡◌, ◌≤◌, ◌<◌, ◌+◌, ◌⊎◌, ⊤, ℕ, List, [], ◌∷◌, ◌++◌, length}
use Rattle.outside.specs.Exchange.{Exchange, broken_off}
use Rattle.settings_machine.specs.declared.request.Request.{Request}
use Rattle.api_http.specs.Requests.{Asks, MayRefuse, WaitsUntil}
use Rattle.settings_machine.specs.Asked.{request_of}
use Rattle.api_server.specs.declared.more.More.{More}
use Rattle.api_server.specs.declared.more.More.TheVariants.{Bytes, End, Memory}
use Rattle.api_server.specs.declared.next.Next.{Next}
use Rattle.api_server.specs.declared.next.Next.TheVariants as next

-- These bytes were read next.
pub record IsRead (bytes : List ℕ) (old new : Exchange) : Type 0 where
  pub split : old.left ≡ bytes ++ new.left
  pub heard : new.heard ≡ old.heard ++ bytes
  pub written : new.written ≡ old.written
  pub failed : new.failed ≡ old.failed

-- Bytes were read next and added to those before.
pub record IsAdded (before now : List ℕ) (old new : Exchange) : Type 0 where
  pub more : List ℕ
  pub grown : now ≡ before ++ more
  pub read : IsRead more old new

-- Nothing was read, for the input is at its end or the call failed.
abbrev pub IsStopped : Exchange → Exchange → Type 0
IsStopped old new = (IsRead [] old new × (new.left ≡ [])) ⊎ (new ≡ broken_off old)

-- Bytes were read next which with those before are no more than 1,064,960.
pub record IsLost (before : List ℕ) (old new : Exchange) : Type 0 where
  pub more : List ℕ
  pub within : length before + length more ≤ 1064960
  pub read : IsRead more old new

-- What one read did.
abbrev pub ReadsOn : More → List ℕ → List ℕ → Exchange → Exchange → Type 0
ReadsOn Bytes before now = IsAdded before now
ReadsOn End before now = IsStopped
ReadsOn Memory before now = IsLost before

-- At least one byte is added, and there are no more than 1,064,960.
pub record IsLonger (before now : List ℕ) : Type 0 where
  pub more : List ℕ
  pub grown : now ≡ before ++ more
  pub some : 0 < length more
  pub within : length now ≤ 1064960

-- What it did to the bytes.
abbrev pub Grows : More → List ℕ → List ℕ → Type 0
Grows Bytes before now = IsLonger before now
Grows _ before now = ⊤

-- More bytes are wanted, so many in all, which are no more than 1,064,960.
pub record IsWaiting (bytes : List ℕ) (count : ℕ) : Type 0 where
  pub more : length bytes < count
  pub most : count ≤ 1064960
  pub until : WaitsUntil bytes count

-- What the bytes come to, with whatever comes after them.
abbrev pub Comes : Next → List ℕ → Type 0
Comes (next.Asked request) bytes = (more : List ℕ) → (n : ℕ) × Asks (bytes ++ more) (request_of request) n
Comes (next.Refused refusal) bytes = (more : List ℕ) → MayRefuse (bytes ++ more) refusal
Comes (next.Wanted count) bytes = IsWaiting bytes count
Comes next.Memory bytes = ⊤

-- The fact holds of what is asked.
abbrev pub IfAsked : Next → (Request → Type 0) → Type 0
IfAsked (next.Asked request) P = P request
IfAsked _ P = ⊤

-- The last connection, if there is one, moves by R, and the others stay.
abbrev pub LastIf : (Exchange → Exchange → Type 0) → List Exchange → List Exchange → Type 0
LastIf R [] new = new ≡ []
LastIf R (before ∷ others) new = (now : Exchange) × (new ≡ now ∷ others) × R before now
