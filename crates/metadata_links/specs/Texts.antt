-- The texts that a value holds.
use Rattle.std.specs.Prelude.{ℕ, Bool, true, false, List, Option, Some, None, if◌then◌else◌}
use Rattle.std.specs.List.{list_all, filter_map}
use Rattle.json_trees.specs.declared.item.Item.{Item}
use Rattle.json_trees.specs.declared.item.Item.TheVariants as item
use Rattle.json_trees.specs.declared.scalar.Scalar.{Scalar}
use Rattle.json_trees.specs.declared.scalar.Scalar.TheVariants as scalar

-- Whether the item is a text.
abbrev pub is_text : Item → Bool
is_text (item.Text text) = true
is_text _ = false

-- The text that the item is, if it is one.
abbrev pub text_of : Item → Option (List ℕ)
text_of (item.Text text) = Some text
text_of _ = None

-- The texts of a list whose items are all texts.
abbrev pub texts_of : List Item → Option (List (List ℕ))
texts_of items = if list_all is_text items then Some (filter_map text_of items) else None

-- The list of texts that the value is, if it is one.
abbrev pub texts_in : Scalar → Option (List (List ℕ))
texts_in (scalar.List items) = texts_of items
texts_in _ = None

-- The text that the value is, if it is one.
abbrev pub text_in : Scalar → Option (List ℕ)
text_in (scalar.Text text) = Some text
text_in _ = None
