-- Sets of names, and lists of names that rise.
use Rattle.std.specs.Prelude.{ℕ, List, map}
use Rattle.std.specs.FinMap.{FinMap, from_entries, insert, keys}
use Rattle.key_names.specs.Order.{bytes_cmp}

-- A finite set of names: a finite map with nothing at each name.
abbrev pub Names : Type 0
Names = FinMap bytes_cmp (Unit {0})

-- The names, each with nothing.
abbrev pub marked : List (List ℕ) → List (List ℕ × Unit {0})
marked names = map (λ name. (name, tt)) names

-- The set of the names of a list.
abbrev pub set_of : List (List ℕ) → Names
set_of names = from_entries (marked names)

-- The set with one name more.
abbrev pub with_member : Names → List ℕ → Names
with_member set name = insert set name tt

-- The names of a list, each once, rising by their bytes.
abbrev pub rising : List (List ℕ) → List (List ℕ)
rising names = keys (set_of names)
