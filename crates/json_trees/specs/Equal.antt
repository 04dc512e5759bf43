-- Equality of items and scalars, as tests.
use Rattle.std.specs.Prelude.{Bool, true, false, List}
use Rattle.std.specs.Bool.{beq}
use Rattle.std.specs.Ordering.{int_eq, eq_by_cmp}
use Rattle.std.specs.Cmp.Lexicographic.{pointwise}
use Rattle.key_names.specs.Order.{bytes_cmp}
use Rattle.json_trees.specs.declared.item.Item.{Item}
use Rattle.json_trees.specs.declared.item.Item.TheVariants as item
use Rattle.json_trees.specs.declared.scalar.Scalar.{Scalar}
use Rattle.json_trees.specs.declared.scalar.Scalar.TheVariants as scalar
use Rattle.json_trees.specs.declared.pending.Pending.{Pending}
use Rattle.json_trees.specs.declared.pending.Pending.TheVariants as pending

-- The items are of one kind and have equal values.
abbrev pub item_eq : Item → Item → Bool
item_eq (item.Bool a) (item.Bool b) = beq a b
item_eq (item.Int a) (item.Int b) = int_eq a b
item_eq (item.Text a) (item.Text b) = eq_by_cmp bytes_cmp a b
item_eq _ _ = false

-- The lists have equal items at the same places.
abbrev pub items_eq : List Item → List Item → Bool
items_eq = pointwise item_eq

-- The scalars are of one kind and have equal values.
abbrev pub scalar_eq : Scalar → Scalar → Bool
scalar_eq (scalar.Bool a) (scalar.Bool b) = beq a b
scalar_eq (scalar.Int a) (scalar.Int b) = int_eq a b
scalar_eq (scalar.Text a) (scalar.Text b) = eq_by_cmp bytes_cmp a b
scalar_eq (scalar.List a) (scalar.List b) = items_eq a b
scalar_eq _ _ = false

-- Both are removals, or both put equal scalars.
abbrev pub pending_eq : Pending → Pending → Bool
pending_eq (pending.Put a) (pending.Put b) = scalar_eq a b
pending_eq pending.Gone pending.Gone = true
pending_eq _ _ = false
