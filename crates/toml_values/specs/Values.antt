-- Which scalar a TOML value is.
use Rattle.std.specs.Prelude.{ℕ, List, [], ◌∷◌, Option, Some, None, option_map}
use Rattle.toml.specs.Data.{Data, string, integer, float, boolean, datetime, array, table, as_str, Items, no_items, item}
use Rattle.json_trees.specs.declared.item.Item.{Item}
use Rattle.json_trees.specs.declared.item.Item.TheVariants as item
use Rattle.json_trees.specs.declared.scalar.Scalar.{Scalar}
use Rattle.json_trees.specs.declared.scalar.Scalar.TheVariants as scalar

-- The item that a value in an array is: a truth value, an integer or a text.
abbrev pub item_of : Data → Option Item
item_of (string s) = Some (item.Text s)
item_of (integer z) = Some (item.Int z)
item_of (float x) = None
item_of (boolean b) = Some (item.Bool b)
item_of (datetime d) = None
item_of (array ds) = None
item_of (table ms) = None

-- The first of a list, where there are both.
abbrev pub option_cons : {T : Type 0} → Option T → Option (List T) → Option (List T)
option_cons None rest = None
option_cons (Some x) rest = option_map (λ xs. x ∷ xs) rest

-- The items that the values of an array are, where each is one.
abbrev pub items_of : Items → Option (List Item)
items_of no_items = Some []
items_of (item d ds) = option_cons (item_of d) (items_of ds)

-- The scalar that a value is: a truth value, an integer, a text, or an array of these.
abbrev pub scalar_of : Data → Option Scalar
scalar_of (string s) = Some (scalar.Text s)
scalar_of (integer z) = Some (scalar.Int z)
scalar_of (float x) = None
scalar_of (boolean b) = Some (scalar.Bool b)
scalar_of (datetime d) = None
scalar_of (array ds) = option_map scalar.List (items_of ds)
scalar_of (table ms) = None

-- The text that a value is.
abbrev pub text_of : Data → Option (List ℕ)
text_of value = as_str value
