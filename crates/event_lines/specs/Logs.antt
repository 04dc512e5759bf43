-- What is written to the log.
use Rattle.std.specs.Prelude.{◌≡◌, ◌≤◌, ◌⊎◌, ◌++◌, ℕ, List, [], ◌∷◌, Option, codes}
use Rattle.outside.specs.Faults.{Rose}
use Rattle.outside.specs.Told.{Moves}
use Rattle.settings_machine.specs.World.{Image, World}
use Rattle.settings_machine.specs.Events.{Event, next}
use Rattle.event_lines.specs.Lines.{lines_of}

-- What was written to the log, where its sink tells it, and how often the sink has failed.
pub record LogState : Type 0 where
  pub told : Option (List ℕ)
  pub faults : ℕ

-- These two.
abbrev pub log_state : Option (List ℕ) → ℕ → LogState
log_state told faults = record { told = told; faults = faults }

-- What stands in the place of the lines of an event for which there was no memory.
abbrev pub lost_line : List ℕ
lost_line = codes "out-of-memory\n"

-- These are the first bytes of the text.
pub record IsFront (text front : List ℕ) : Type 0 where
  pub rest : List ℕ
  pub split : text ≡ front ++ rest

-- What was written for these lines: they, or the line in their place where there was no memory for them; or, where a write failed, some of
-- the one or the other, from the first byte on.
abbrev pub IsWritten : Type 0 → List ℕ → List ℕ → Type 0
IsWritten Failed lines written = (written ≡ lines) ⊎ ((written ≡ lost_line) ⊎ (Failed × (IsFront lines written ⊎ IsFront lost_line written)))

-- What was written for these events, one after another.
abbrev pub AreWritten : Type 0 → Image → World → List Event → List ℕ → Type 0
AreWritten Failed I W [] written = written ≡ []
AreWritten Failed I W (e ∷ es) written = (first : List ℕ) × (rest : List ℕ) × (written ≡ first ++ rest) × IsWritten Failed (lines_of I W e) first
    × AreWritten Failed I (next I W e) es rest

-- What was written before is followed by what was written for these events.
pub record Appends (Failed : Type 0) (I : Image) (W : World) (events : List Event) (old new : List ℕ) : Type 0 where
  pub written : List ℕ
  pub is : new ≡ old ++ written
  pub are : AreWritten Failed I W events written

-- These events were logged. A log that fails ends nothing: it is tried again at the next event.
pub record Logs (I : Image) (W : World) (events : List Event) (before after : LogState) : Type 0 where
  pub later : before.faults ≤ after.faults
  pub wrote : Moves before.told after.told (Appends (Rose before.faults after.faults) I W events)

-- ---- for private clauses

-- These lines were written, or what stands in their place.
pub record AppendsLines (Failed : Type 0) (lines old new : List ℕ) : Type 0 where
  pub written : List ℕ
  pub is : new ≡ old ++ written
  pub are : IsWritten Failed lines written

-- They were logged.
pub record Tells (lines : List ℕ) (before after : LogState) : Type 0 where
  pub later : before.faults ≤ after.faults
  pub wrote : Moves before.told after.told (AppendsLines (Rose before.faults after.faults) lines)
