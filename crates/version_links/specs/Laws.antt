-- Laws of links.
use Rattle.std.specs.Prelude.{◌≡◌}
use Rattle.outside.specs.Tree.{Tree}
use Rattle.version_links.specs.Chain.{Outcome, Resolves}

-- The links of a tree lead to one outcome at most.
abbrev pub ResolvesToOne : Type 0
ResolvesToOne = (tree : Tree) (one other : Outcome) → Resolves tree one → Resolves tree other → one ≡ other

-- The links of each tree lead to some outcome.
abbrev pub AlwaysResolves : Type 0
AlwaysResolves = (tree : Tree) → (outcome : Outcome) × Resolves tree outcome
