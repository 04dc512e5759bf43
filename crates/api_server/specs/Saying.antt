-- What is said on a connection.
use Rattle.std.specs.Prelude.{◌≡◌, ◌⊎◌, ℕ, true, List, ◌++◌}
use Rattle.outside.specs.Exchange.{Exchange}

-- All of the bytes were written and no call failed.
pub record IsSaidWhole (bytes : List ℕ) (old new : Exchange) : Type 0 where
  pub written : new.written ≡ old.written ++ bytes
  pub failed : new.failed ≡ old.failed

-- A call failed, and the bytes before the rest were written.
pub record IsSaidInPart (bytes : List ℕ) (old new : Exchange) : Type 0 where
  pub front : List ℕ
  pub rest : List ℕ
  pub split : bytes ≡ front ++ rest
  pub written : new.written ≡ old.written ++ front
  pub failed : new.failed ≡ true

-- No byte was read, and all of the bytes were written, or some of them, from the first on, until a call failed.
pub record IsSaid (bytes : List ℕ) (old new : Exchange) : Type 0 where
  pub heard : new.heard ≡ old.heard
  pub left : new.left ≡ old.left
  pub said : IsSaidWhole bytes old new ⊎ IsSaidInPart bytes old new

-- ---- for private clauses

-- The bytes before the rest were written, and no call failed.
pub record IsSaidBefore (rest bytes : List ℕ) (old new : Exchange) : Type 0 where
  pub front : List ℕ
  pub split : bytes ≡ front ++ rest
  pub written : new.written ≡ old.written ++ front
  pub heard : new.heard ≡ old.heard
  pub left : new.left ≡ old.left
  pub failed : new.failed ≡ old.failed
