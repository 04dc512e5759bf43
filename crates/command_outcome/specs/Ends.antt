-- How a run ends: its status, and what is printed.
use Rattle.std.specs.Prelude.{◌≡◌, ◌⊎◌, ℕ, List, Option, Result, Ok, Err, codes}
use Rattle.outside.specs.Told.{Moves}
use Rattle.outside.specs.Said.{IsSaid, IsSaidInPart}
use Rattle.command_outcome.specs.Lines.{status_of, line_of}
use Rattle.command_outcome.specs.declared.refusal.Refusal.{Refusal}

-- What a command comes to: the text that it prints, or its refusal.
abbrev pub Outcome : Type 0
Outcome = Result (List ℕ) Refusal

-- The status of a command that came to this.
abbrev pub status_in : Outcome → ℕ
status_in (Ok text) = 0
status_in (Err refusal) = status_of refusal

-- What is printed of it.
abbrev pub text_in : Outcome → List ℕ
text_in (Ok text) = text
text_in (Err refusal) = line_of refusal

-- The text is written, and the status is this one; or it is written in part, and the status is 12.
abbrev pub Tells : ℕ → List ℕ → ℕ → Option (List ℕ) → Option (List ℕ) → Type 0
Tells status text result s s' = ((result ≡ status) × Moves s s' (IsSaid text)) ⊎ ((result ≡ 12) × Moves s s' (IsSaidInPart text))

-- It ran out of memory, which is the status, and as much of its line is written as the output takes.
abbrev pub TellsMemory : ℕ → Option (List ℕ) → Option (List ℕ) → Type 0
TellsMemory result s s' = (result ≡ 1) × Moves s s' (IsSaidInPart (codes "settings: memory\n"))

-- A run whose command came to this ends with this status.
abbrev pub Ends : Outcome → ℕ → Option (List ℕ) → Option (List ℕ) → Type 0
Ends outcome result s s' = Tells (status_in outcome) (text_in outcome) result s s' ⊎ TellsMemory result s s'
