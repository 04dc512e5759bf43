-- For private clauses: how a part of a document is read or refused.
use Rattle.std.specs.Prelude.{◌≡◌, ℕ, List, ◌++◌, Option, Some, Ok, Err, ⊤}
use Rattle.json_trees.specs.declared.scalar.Scalar.{Scalar}
use Rattle.user_data.specs.Pairs.{Pairs, Path, fault_at}
use Rattle.toml_values.specs.declared.located_fault.LocatedFault.{LocatedFault}
use Rattle.toml_values.specs.declared.located_fault.LocatedFault.TheVariants.{Fault, Memory}
use Rattle.user_data.specs.declared.user_data_error.UserDataKind.{UserDataKind}
use Rattle.user_data.specs.declared.user_data_error.UserDataKind.TheVariants.{NotSettings}

-- These pairs, with no refusal among them, were appended.
pub record Appends (pairs : Pairs) (old new : List (Path × Scalar)) : Type 0 where
  pub found : List (Path × Scalar)
  pub none_refused : pairs ≡ Ok found
  pub appended : new ≡ old ++ found

-- The refusal is that of the pairs, unless it ran out of memory.
abbrev pub Refuses : Pairs → LocatedFault UserDataKind → Type 0
Refuses pairs Memory = ⊤
Refuses pairs (Fault kind at) = pairs ≡ Err (fault_at kind at)

-- The refusal is of this top-level name, unless it ran out of memory.
abbrev pub RefusesName : Option (List ℕ) → LocatedFault UserDataKind → Type 0
RefusesName name Memory = ⊤
RefusesName name (Fault kind at) = (kind ≡ NotSettings) × (name ≡ Some at)
