-- Keys that are owed, what is owed later, and contents that differ at owed keys alone.
use Rattle.std.specs.Prelude.{◌≡◌, Contains}
use Rattle.std.specs.FinMap.{get}
use Rattle.settings_tree.specs.Content.{Contents}
use Rattle.settings_tree.specs.declared.entry.Owed.{Owed}
use Rattle.settings_tree.specs.declared.entry.Owed.TheVariants.{All, Keys}
use Rattle.template_eval.specs.Place.{Path}

-- The key is owed.
abbrev pub Owes : Owed → Path → Type 0
Owes All key = Unit {0}
Owes (Keys owed) key = Contains owed key

-- What is owed later has at least the keys that were owed.
abbrev pub OwesMore : Owed → Owed → Type 0
OwesMore All All = Unit {0}
OwesMore All (Keys more) = ⊥
OwesMore (Keys owed) All = Unit {0}
OwesMore (Keys owed) (Keys more) = (key : Path) → Contains owed key → Contains more key

-- Two contents have the same value at each key that isn't owed.
pub record DifferWithin (owed : Owed) (one other : Contents) : Type 0 where
  pub same : (key : Path) → (Owes owed key → ⊥) → get one.values key ≡ get other.values key
