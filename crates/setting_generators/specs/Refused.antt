-- For private clauses: how a part of a document is refused.
use Rattle.std.specs.Prelude.{◌≡◌, ℕ, List, [], Err, ⊤}
use Rattle.toml.specs.Data.{Members}
use Rattle.toml_values.specs.Document.{named}
use Rattle.typed_settings.specs.declared.row.Row.{Row}
use Rattle.setting_generators.specs.Generators.{Path}
use Rattle.setting_generators.specs.Reading.{Entry, IsBad, IsFault, Reads, fault_at}
use Rattle.setting_generators.specs.declared.generators_error.GeneratorsKind.{GeneratorsKind}
use Rattle.toml_values.specs.declared.located_fault.LocatedFault.{LocatedFault}
use Rattle.toml_values.specs.declared.located_fault.LocatedFault.TheVariants.{Fault, Memory}

-- The refusal tells why the entry is no generator, unless it ran out of memory.
abbrev pub RefusesEntry : List Row → List Path → Entry → LocatedFault GeneratorsKind → Type 0
RefusesEntry table keys entry Memory = ⊤
RefusesEntry table keys entry (Fault kind at) = IsBad table keys entry kind × (at ≡ entry.0)

-- The refusal is that of the first entry which is no generator, unless it ran out of memory.
abbrev pub RefusesTable : List Row → Members → LocatedFault GeneratorsKind → Type 0
RefusesTable table document Memory = ⊤
RefusesTable table document (Fault kind at) = Reads table [] (named document) (Err (fault_at kind at))

-- The refusal is a fault of the text, unless it ran out of memory.
abbrev pub RefusesText : List Row → List ℕ → LocatedFault GeneratorsKind → Type 0
RefusesText table text Memory = ⊤
RefusesText table text (Fault kind at) = IsFault table text kind at
