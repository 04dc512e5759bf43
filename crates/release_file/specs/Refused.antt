-- For private clauses: how a part of the checks is met or refused.
use Rattle.std.specs.Prelude.{◌≡◌, ℕ, List, ⊤}
use Rattle.std.specs.List.{AllByRecursion}
use Rattle.release_file.specs.Checks.{Check, Holds, fault_of, name_of, IsFirstFailing}
use Rattle.release_file.specs.Reading.{IsFault}
use Rattle.toml_values.specs.declared.located_fault.LocatedFault.{LocatedFault}
use Rattle.toml_values.specs.declared.located_fault.LocatedFault.TheVariants.{Fault, Memory}
use Rattle.release_file.specs.declared.release_error.ReleaseKind.{ReleaseKind}

-- All of the checks hold.
abbrev pub Passes : List Check → Type 0
Passes all = AllByRecursion Holds all

-- The refusal is that of the first of the checks which fails, unless it ran out of memory.
abbrev pub Refuses : List Check → LocatedFault ReleaseKind → Type 0
Refuses all Memory = ⊤
Refuses all (Fault kind at) = (check : Check) × IsFirstFailing all check × (kind ≡ fault_of check) × (at ≡ name_of check)

-- The refusal is a fault of the text, unless it ran out of memory.
abbrev pub RefusesText : List ℕ → LocatedFault ReleaseKind → Type 0
RefusesText text Memory = ⊤
RefusesText text (Fault kind at) = IsFault text kind at
