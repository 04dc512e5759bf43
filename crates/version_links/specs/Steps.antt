-- One link of the chain, as it is read.
use Rattle.std.specs.Prelude.{◌≢◌, ℕ, ◌^◌, ◌<◌, ◌==◌, List, ◌∷◌, ◌++◌, Option, Some, None, if◌then◌else◌}
use Rattle.std.specs.Fmt.{decimal}
use Rattle.outside.specs.Tree.{Tree}
use Rattle.version_links.specs.declared.chain.Place.{Place}
use Rattle.version_links.specs.Names.{id_text}
use Rattle.version_links.specs.Chain.{link_at, Outcome, nowhere, found}

-- After a `_` a number is an id of 16 hexadecimal digits, and after another mark it is in decimal.
abbrev pub digits_behind : ℕ → ℕ → List ℕ
digits_behind mark n = if mark == 95 then id_text n else decimal n

-- The text with a mark and a number after it.
abbrev pub extended : List ℕ → ℕ → ℕ → List ℕ
extended front mark n = front ++ mark ∷ digits_behind mark n

-- No link with this name extends it by a mark and a number.
pub record IsStuck (tree : Tree) (name : List ℕ) (mark : ℕ) : Type 0 where
  pub ends : (n : ℕ) → n < 2 ^ 64 → link_at tree name ≢ Some (extended name mark n)

-- The outcome that a place tells, or its lack.
abbrev pub outcome_of : Option Place → Outcome
outcome_of None = nowhere
outcome_of (Some place) = found place.version place.directory
