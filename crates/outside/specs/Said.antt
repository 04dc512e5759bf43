-- What was written to a sink.
use Rattle.std.specs.Prelude.{◌≡◌, ℕ, List, ◌++◌}

-- All of the bytes were written.
pub record IsSaid (bytes old new : List ℕ) : Type 0 where
  pub is : new ≡ old ++ bytes

-- The bytes before the rest were written.
pub record IsSaidBefore (rest bytes old new : List ℕ) : Type 0 where
  pub front : List ℕ
  pub split : bytes ≡ front ++ rest
  pub is : new ≡ old ++ front

-- Some of the bytes were written, from the first on.
pub record IsSaidInPart (bytes old new : List ℕ) : Type 0 where
  pub rest : List ℕ
  pub before : IsSaidBefore rest bytes old new
