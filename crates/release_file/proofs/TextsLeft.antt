-- The texts that the values of an array are.
use Rattle.std.proofs.Common.{ℕ, List, ◌++◌, drop, Option, option_map}
use Rattle.toml.specs.View.{items_view}
use Rattle.toml.specs.declared.value.Value.{Value}
use Rattle.release_file.specs.Fields.{texts_in}

-- The texts so far, with those of the values to come after them.
abbrev pub behind : List (List ℕ) → Option (List (List ℕ)) → Option (List (List ℕ))
behind texts rest = option_map (λ xs. texts ++ xs) rest

-- The texts of the values from this index on.
abbrev pub texts_from : List Value → ℕ → Option (List (List ℕ))
texts_from values i = texts_in (items_view (drop i values))
