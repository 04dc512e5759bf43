-- When the spawner may be said to have failed.
use Rattle.std.specs.Prelude.{◌≡◌, ◌≤◌, ℕ, List, Result, OnOk, IsErr, IsErrOf}
use Rattle.outside.specs.Faults.{Rose}

-- The count never falls, a failure under some name tells of a rise, and any other answer leaves the count.
pub record HasNamedCause {T E : Type 0} (failure : List ℕ → E) (before now : ℕ) (result : Result T E) : Type 0 where
  pub later : before ≤ now
  pub failed : (name : List ℕ) → IsErrOf result (failure name) → Rose before now
  pub kept : OnOk result (now ≡ before)
  pub other : IsErr result → ((name : List ℕ) → IsErrOf result (failure name) → ⊥) → now ≡ before
