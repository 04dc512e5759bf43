-- What a call refuses, and for which cause.
use Rattle.std.specs.Prelude.{◌≡◌, ◌≢◌, ℕ, List, Result, MatchResult}
use Rattle.json_trees.specs.declared.scalar.Scalar.{Scalar}
use Rattle.typed_settings.specs.Row.{IsFirstBad, IsLeastMeeting, IsKnown, IsRefusedFor}
use Rattle.typed_settings.specs.declared.row.Row.{Row}
use Rattle.typed_settings.specs.declared.rows_error.RowsError.{RowsError}
use Rattle.typed_settings.specs.declared.rows_error.RowsError.TheVariants as rows
use Rattle.typed_settings.specs.declared.type_error.TypeError.{TypeError}
use Rattle.typed_settings.specs.declared.type_error.TypeError.TheVariants as check

-- The texts have this fault: a row that they don't spell, or else rows that meet.
abbrev pub HasFault : List (List ℕ × List ℕ) → RowsError → Type 0
HasFault texts (rows.BadRow index) = IsFirstBad texts index
HasFault texts (rows.Meet first second) = IsLeastMeeting texts first second
HasFault texts rows.Memory = ⊥

-- The value may not be at the key, for this cause: no row matches the key, or the row's word refuses the value.
abbrev pub IsIllTyped : List Row → List (List ℕ) → Scalar → TypeError → Type 0
IsIllTyped table key value (check.Unknown k) = (k ≡ key) × (IsKnown table key → ⊥)
IsIllTyped table key value (check.Wrong k wanted) = (k ≡ key) × IsRefusedFor table key value wanted
IsIllTyped table key value check.Memory = ⊥

-- The answer is this fault, unless it ran out of memory.
abbrev pub IsFault : {T E : Type 0} → E → Result T E → E → Type 0
IsFault memory result fault = MatchResult result (λ _. ⊥) (λ e. e ≢ memory → e ≡ fault)

-- The answer is no fault, unless it ran out of memory.
abbrev pub IsNoFault : {T E : Type 0} → E → Result T E → Type 0
IsNoFault memory result = MatchResult result (λ _. Unit {0}) (λ e. e ≡ memory)
