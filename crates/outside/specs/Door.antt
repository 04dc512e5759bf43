-- A door: one connection after another.
use Rattle.std.specs.Prelude.{◌≡◌, ℕ, ◌+◌, List, ◌∷◌, Bool, true, false, Result, Ok, Err}
use Rattle.outside.specs.Exchange.{Exchange, fresh}

-- How many connections were accepted, whether an accept answered that none is left, whether one failed, and whether the last connection isn't finished.
pub record DoorState : Type 0 where
  pub accepted : ℕ
  pub ended : Bool
  pub broken : Bool
  pub busy : Bool

-- One connection more, or none is left, or the call failed.
abbrev pub Accepts : {E : Type 0} → Result Bool E → DoorState → DoorState → Type 0
Accepts (Ok true) old new = new ≡ record { accepted = old.accepted + 1; ended = old.ended; broken = old.broken; busy = true }
Accepts (Ok false) old new = new ≡ record { accepted = old.accepted; ended = true; broken = old.broken; busy = false }
Accepts (Err e) old new = new ≡ record { accepted = old.accepted; ended = old.ended; broken = true; busy = false }

-- The last connection is finished.
abbrev pub finished : DoorState → DoorState
finished old = record { accepted = old.accepted; ended = old.ended; broken = old.broken; busy = false }

-- The record of the connections, the last one first: an accepted one begins with all of its input to come.
abbrev pub Opens : {E : Type 0} → Result Bool E → List Exchange → List Exchange → Type 0
Opens (Ok true) old new = (input : List ℕ) × (new ≡ fresh input ∷ old)
Opens (Ok false) old new = new ≡ old
Opens (Err e) old new = new ≡ old

-- The last connection moves by R, and the others stay.
pub record LastBy (R : Exchange → Exchange → Type 0) (old new : List Exchange) : Type 0 where
  pub before : Exchange
  pub now : Exchange
  pub others : List Exchange
  pub old_is : old ≡ before ∷ others
  pub new_is : new ≡ now ∷ others
  pub moved : R before now
