-- What the states of configuration files say.
use Rattle.std.specs.Prelude.{◌≡◌, ◌≢◌, ℕ, List, Some, None, IsSome, Ok, Err}
use Rattle.std.specs.FinMap.{get}
use Rattle.settings_machine.specs.declared.states.FileState.{FileState}
use Rattle.settings_machine.specs.declared.states.FileState.TheVariants.{Current, Owed, Refused, Differs, Absent}
use Rattle.settings_machine.specs.World.{Image, World, path_of, rendered}
use Rattle.settings_machine.specs.Paid.{IsDue, IsCurrent, IsPaid}
use Rattle.settings_machine.specs.Verified.{file_state}

-- The file renders, and other bytes or none are there.
pub record IsStale (I : Image) (W : World) (file : List ℕ) : Type 0 where
  pub bytes : List ℕ
  pub renders : rendered I file W.held.live ≡ Ok bytes
  pub other : get W.etc (path_of I file) ≢ Some bytes

-- The file is stale, and not due.
pub record IsForeign (I : Image) (W : World) (file : List ℕ) : Type 0 where
  pub stale : IsStale I W file
  pub not_due : IsDue I W.held file → ⊥

-- What a state says of the file: it is what its template renders to; it isn't, and is due; its template refuses; it isn't what its template
-- renders to, nor due, and something is there, or nothing.
abbrev pub IsState : Image → World → List ℕ → FileState → Type 0
IsState I W file Current = IsCurrent I W file
IsState I W file Owed = IsStale I W file × IsDue I W.held file
IsState I W file (Refused error) = rendered I file W.held.live ≡ Err error
IsState I W file Differs = IsForeign I W file × IsSome (get W.etc (path_of I file))
IsState I W file Absent = IsForeign I W file × (get W.etc (path_of I file) ≡ None)

-- Exactly one state is the case with each file, and it is the one that is answered.
abbrev pub StatesAreExact : Type 0
StatesAreExact = (I : Image) (W : World) (file : List ℕ) (state : FileState) → (file_state I W file ≡ state → IsState I W file state)
    × (IsState I W file state → file_state I W file ≡ state)

-- A file that is paid was written by nobody else, and nobody took it away.
abbrev pub PaidFilesAreOurs : Type 0
PaidFilesAreOurs = (I : Image) (W : World) (file : List ℕ) → IsPaid I W file → (file_state I W file ≢ Differs) × (file_state I W file ≢ Absent)
