-- The bytes that go to and fro on one connection.
use Rattle.std.specs.Prelude.{◌≡◌, ◌↔◌, ℕ, List, [], ◌++◌, take, Bool, true, false, Result, Ok, Err}

-- What was read so far, what is still to come, what was written, and whether a call of it failed.
pub record Exchange : Type 0 where
  pub heard : List ℕ
  pub left : List ℕ
  pub written : List ℕ
  pub failed : Bool

-- An exchange with this input, before its first byte.
abbrev pub fresh : List ℕ → Exchange
fresh input = record { heard = []; left = input; written = []; failed = false }

-- A call of it failed and took no byte.
abbrev pub broken_off : Exchange → Exchange
broken_off e = record { heard = e.heard; left = e.left; written = e.written; failed = true }

-- These bytes came next, and none exactly at the end of the input.
pub record HasHeard (bytes : List ℕ) (old new : Exchange) : Type 0 where
  pub split : old.left ≡ bytes ++ new.left
  pub heard : new.heard ≡ old.heard ++ bytes
  pub end : (bytes ≡ []) ↔ (old.left ≡ [])
  pub written : new.written ≡ old.written
  pub failed : new.failed ≡ old.failed

-- The front of the room holds the bytes that came next, or the call failed.
abbrev pub Hears : {E : Type 0} → List ℕ → Result ℕ E → Exchange → Exchange → Type 0
Hears room (Ok count) old new = HasHeard (take count room) old new
Hears room (Err e) old new = new ≡ broken_off old

-- The front of the piece was taken, or the call failed.
abbrev pub Says : {E : Type 0} → List ℕ → Result ℕ E → Exchange → Exchange → Type 0
Says piece (Ok count) old new = new ≡ record { heard = old.heard; left = old.left; written = old.written ++ take count piece; failed = old.failed }
Says piece (Err e) old new = new ≡ broken_off old
