-- For private clauses: tables whose names rise.
use Rattle.std.specs.Prelude.{◌≡◌, ⊤}
use Rattle.std.specs.declared.cmp.Ordering.TheVariants.{Less}
use Rattle.std.specs.List.{AllByRecursion}
use Rattle.key_names.specs.Order.{bytes_cmp}
use Rattle.toml.specs.Data.{Data, string, integer, float, boolean, datetime, array, table, Members, no_members, member}
use Rattle.toml_values.specs.Document.{named}

-- Each name is below those after it.
abbrev pub NamesRise : Members → Type 0
NamesRise no_members = ⊤
NamesRise (member name d ms) = AllByRecursion (λ entry. bytes_cmp name entry.0 ≡ Less) (named ms) × NamesRise ms

-- The names of each table rise; what is in arrays is left out.
abbrev mutual
  pub HasRisingNames : Data → Type 0
  HasRisingNames (string s) = ⊤
  HasRisingNames (integer z) = ⊤
  HasRisingNames (float x) = ⊤
  HasRisingNames (boolean b) = ⊤
  HasRisingNames (datetime t) = ⊤
  HasRisingNames (array ds) = ⊤
  HasRisingNames (table ms) = NamesRise ms × ValuesRise ms

  pub ValuesRise : Members → Type 0
  ValuesRise no_members = ⊤
  ValuesRise (member name d ms) = HasRisingNames d × ValuesRise ms

-- The names of the members rise, and those of each table below them.
abbrev pub RisesWithin : Members → Type 0
RisesWithin ms = NamesRise ms × ValuesRise ms
