-- How a part of a document is refused.
use Rattle.std.specs.Prelude.{◌≡◌, ℕ, List, ⊤}
use Rattle.toml_values.specs.declared.located_fault.LocatedFault.{LocatedFault}
use Rattle.toml_values.specs.declared.located_fault.LocatedFault.TheVariants.{Fault, Memory}

-- The refusal is of this kind and at this place, unless it ran out of memory.
abbrev pub IsAt : {K : Type 0} → K → List ℕ → LocatedFault K → Type 0
IsAt kind place Memory = ⊤
IsAt kind place (Fault k at) = (k ≡ kind) × (at ≡ place)
