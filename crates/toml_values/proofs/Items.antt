-- The items that the values of an array are.
use Rattle.std.proofs.Common.{ℕ, List, ◌++◌, drop, Option, option_map}
use Rattle.json_trees.specs.declared.item.Item.{Item}
use Rattle.toml.specs.View.{items_view}
use Rattle.toml.specs.declared.value.Value.{Value}
use Rattle.toml_values.specs.Values.{items_of}

-- The items so far, with those of the values to come after them.
abbrev pub behind : List Item → Option (List Item) → Option (List Item)
behind items rest = option_map (λ xs. items ++ xs) rest

-- The items of the values from this index on.
abbrev pub items_from : List Value → ℕ → Option (List Item)
items_from values i = items_of (items_view (drop i values))
