-- What a sink takes.
use Rattle.std.specs.Prelude.{◌≡◌, ℕ, List, ◌++◌, take, Result, Ok, Err}

-- The front of the piece was taken, or nothing at an error.
abbrev pub Takes : {E : Type 0} → List ℕ → Result ℕ E → List ℕ → List ℕ → Type 0
Takes piece (Ok count) old new = new ≡ old ++ take count piece
Takes piece (Err e) old new = new ≡ old
