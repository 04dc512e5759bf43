-- First occurrences.
use Rattle.std.specs.Prelude.{ℕ, List, []}
use Rattle.std.specs.Str.{bytes_eq}
use Rattle.indexmap.specs.IndexSet.{insert_all}

-- The names, each where it comes first.
abbrev pub firsts : List (List ℕ) → List (List ℕ)
firsts names = insert_all bytes_eq [] names
