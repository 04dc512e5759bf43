-- The bytes of one connection, by what it came to.
use Rattle.std.specs.Prelude.{◌≡◌, ◌≤◌, ◌⊎◌, ℕ, true, List, [], ◌++◌, length}
use Rattle.outside.specs.Exchange.{Exchange, fresh}
use Rattle.api_http.specs.Replies.{Sent, refused, status_of, word_of}
use Rattle.api_http.specs.Requests.{Asks, MayRefuse, Waits}
use Rattle.api_http.specs.declared.refusal.Refusal.{Refusal}
use Rattle.api_http.specs.declared.refusal.Refusal.TheVariants as refusal
use Rattle.api_server.specs.Hearing.{input_of}
use Rattle.api_http.specs.Says.{Says}
use Rattle.settings_machine.specs.Requests.{Request, Reply}
use Rattle.settings_machine.specs.Events.{Unreadable}

-- What one connection came to: nothing was asked; there was no memory to read it or to print why it is refused; it was refused in
-- reading; or it was asked and replied.
pub data Said : Type 0 where
  Nothing : Said
  OutOfMemory : Said
  Unread : Refusal → Said
  Replied : Request → Reply → Said

-- Why a request was refused in reading: the status by which that is answered, and the word for it in the body of the reply.
abbrev pub why : Refusal → Unreadable
why r = record { status = (status_of r).0; error = word_of r }

-- Some of the text was written, from its first byte on, until a call failed.
pub record IsCutOff (x : Exchange) (text : List ℕ) : Type 0 where
  pub rest : List ℕ
  pub split : text ≡ x.written ++ rest
  pub failed : x.failed ≡ true

-- All that was written is the text, or as much of it as the connection took.
abbrev pub Wrote : Exchange → List ℕ → Type 0
Wrote x text = (x.written ≡ text) ⊎ IsCutOff x text

-- The input asks this, and what was written is a reply that says what the machine replied.
pub record IsReplied (x : Exchange) (q : Request) (reply : Reply) : Type 0 where
  pub size : ℕ
  pub asks : Asks (input_of x) q size
  pub sent : Sent
  pub says : Says reply sent
  pub wrote : Wrote x sent.bytes

-- The bytes that came and went: nothing is written where the input ended before a request was whole or refused, or a read failed;
-- the fixed 503 where it ran out of memory; the refusal; or the reply to what was asked.
abbrev pub Exchanges : Exchange → Said → Type 0
Exchanges x Nothing = (x.written ≡ []) × ((Waits (input_of x) × (x.left ≡ [])) ⊎ (x.failed ≡ true))
Exchanges x OutOfMemory = Wrote x (refused refusal.Memory).bytes
Exchanges x (Unread r) = MayRefuse (input_of x) r × Wrote x (refused r).bytes
Exchanges x (Replied q reply) = IsReplied x q reply

-- At most 1,064,960 bytes were read.
pub record IsExchanged (said : Said) (x : Exchange) : Type 0 where
  pub bound : length x.heard ≤ 1064960
  pub bytes : Exchanges x said

-- Over one connection, from where it was accepted with this input.
pub record IsServed (said : Said) (old new : Exchange) : Type 0 where
  pub from_start : (input : List ℕ) → old ≡ fresh input → IsExchanged said new × (input_of new ≡ input)
