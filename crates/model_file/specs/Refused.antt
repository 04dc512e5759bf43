-- For private clauses: how a part of the checks is met or refused.
use Rattle.std.specs.Prelude.{◌≡◌, ℕ, List, ⊤}
use Rattle.std.specs.List.{AllByRecursion}
use Rattle.model_file.specs.Checks.{Check, Holds, kind_of, path_of, IsFirstFailing}
use Rattle.model_file.specs.Entries.{Path}
use Rattle.model_file.specs.Rows.{RowTexts}
use Rattle.model_file.specs.Model.{printed_path, IsFault}
use Rattle.model_file.specs.declared.model_error.ModelKind.{ModelKind}
use Rattle.toml_values.specs.declared.located_fault.LocatedFault.{LocatedFault}
use Rattle.toml_values.specs.declared.located_fault.LocatedFault.TheVariants.{Fault, Memory}

-- All of the checks hold.
abbrev pub Passes : RowTexts → List Check → Type 0
Passes rows all = AllByRecursion (Holds rows) all

-- The refusal is that of the first of the checks which fails, unless it ran out of memory.
abbrev pub Refuses : RowTexts → List Check → LocatedFault ModelKind → Type 0
Refuses rows all Memory = ⊤
Refuses rows all (Fault kind at) = (check : Check) × IsFirstFailing rows all check × (kind ≡ kind_of check) × (at ≡ printed_path (path_of check))

-- The refusal is of this kind and at this path, unless it ran out of memory.
abbrev pub IsAt : ModelKind → Path → LocatedFault ModelKind → Type 0
IsAt kind path Memory = ⊤
IsAt kind path (Fault k at) = (k ≡ kind) × (at ≡ printed_path path)

-- The refusal is a fault of the text, unless it ran out of memory.
abbrev pub RefusesText : List ℕ → LocatedFault ModelKind → Type 0
RefusesText text Memory = ⊤
RefusesText text (Fault kind at) = IsFault text kind at
