-- The laws of the tests of equality, which the language takes from the definitions alone.
use Rattle.std.proofs.Common.{◌≡◌, ℕ, List, true, true≢false, ap, subst, sym, refl}
use Rattle.std.specs.Bool.{Decides}
use Rattle.std.specs.Ordering.{eq_by_cmp}
use Rattle.std.specs.Cmp.{IsEquivalence, IsPartialEquivalence, partial_equiv_from_equiv, decided, booleans_Decides, signed_Decides}
use Rattle.std.specs.Cmp.Lexicographic.{pointwise_decides}
use Rattle.key_names.specs.Order.{bytes_cmp}
use Rattle.key_names.proofs.Ties.{same_bytes}
use Rattle.json_trees.specs.declared.item.Item.{Item}
use Rattle.json_trees.specs.declared.item.Item.TheVariants as item
use Rattle.json_trees.specs.declared.scalar.Scalar.{Scalar}
use Rattle.json_trees.specs.declared.scalar.Scalar.TheVariants as scalar
use Rattle.json_trees.specs.declared.pending.Pending.{Pending}
use Rattle.json_trees.specs.declared.pending.Pending.TheVariants as pending
use Rattle.json_trees.specs.Equal.{item_eq, items_eq, scalar_eq, pending_eq}

-- Texts are equal exactly where they tie.
text_Decides : (a b : List ℕ) → Decides (eq_by_cmp bytes_cmp a b) (a ≡ b)
text_Decides a b = same_bytes a b _ _ refl refl

-- An item is equal to itself.
item_eq-self : (a : Item) → item_eq a a ≡ true
item_eq-self (item.Bool a) = (booleans_Decides a a).1 refl
item_eq-self (item.Int a) = (signed_Decides a a).1 refl
item_eq-self (item.Text a) = (text_Decides a a).1 refl

-- Items that are equal by the test are one.
item_eq-same : (a b : Item) → item_eq a b ≡ true → a ≡ b
item_eq-same (item.Bool a) (item.Bool b) e = ap item.Bool ((booleans_Decides a b).0 e)
item_eq-same (item.Int a) (item.Int b) e = ap item.Int ((signed_Decides a b).0 e)
item_eq-same (item.Text a) (item.Text b) e = ap item.Text ((text_Decides a b).0 e)
item_eq-same _ _ e = absurd (true≢false (sym e))

-- Items are equal exactly where the test holds.
pub item_eq-Decides : (a b : Item) → Decides (item_eq a b) (a ≡ b)
item_eq-Decides a b = (item_eq-same a b, λ e. subst (λ x. item_eq a x ≡ true) e (item_eq-self a))

-- Lists of items are equal exactly where the test holds.
pub items_eq-Decides : (a b : List Item) → Decides (items_eq a b) (a ≡ b)
items_eq-Decides = pointwise_decides item_eq-Decides

-- A scalar is equal to itself.
scalar_eq-self : (a : Scalar) → scalar_eq a a ≡ true
scalar_eq-self (scalar.Bool a) = (booleans_Decides a a).1 refl
scalar_eq-self (scalar.Int a) = (signed_Decides a a).1 refl
scalar_eq-self (scalar.Text a) = (text_Decides a a).1 refl
scalar_eq-self (scalar.List a) = (items_eq-Decides a a).1 refl

-- Scalars that are equal by the test are one.
scalar_eq-same : (a b : Scalar) → scalar_eq a b ≡ true → a ≡ b
scalar_eq-same (scalar.Bool a) (scalar.Bool b) e = ap scalar.Bool ((booleans_Decides a b).0 e)
scalar_eq-same (scalar.Int a) (scalar.Int b) e = ap scalar.Int ((signed_Decides a b).0 e)
scalar_eq-same (scalar.Text a) (scalar.Text b) e = ap scalar.Text ((text_Decides a b).0 e)
scalar_eq-same (scalar.List a) (scalar.List b) e = ap scalar.List ((items_eq-Decides a b).0 e)
scalar_eq-same _ _ e = absurd (true≢false (sym e))

-- Scalars are equal exactly where the test holds.
pub scalar_eq-Decides : (a b : Scalar) → Decides (scalar_eq a b) (a ≡ b)
scalar_eq-Decides a b = (scalar_eq-same a b, λ e. subst (λ x. scalar_eq a x ≡ true) e (scalar_eq-self a))

-- A pending value is equal to itself.
pending_eq-self : (a : Pending) → pending_eq a a ≡ true
pending_eq-self (pending.Put a) = scalar_eq-self a
pending_eq-self pending.Gone = refl

-- Pending values that are equal by the test are one.
pending_eq-same : (a b : Pending) → pending_eq a b ≡ true → a ≡ b
pending_eq-same (pending.Put a) (pending.Put b) e = ap pending.Put (scalar_eq-same a b e)
pending_eq-same pending.Gone pending.Gone e = refl
pending_eq-same _ _ e = absurd (true≢false (sym e))

-- Pending values are equal exactly where the test holds.
pub pending_eq-Decides : (a b : Pending) → Decides (pending_eq a b) (a ≡ b)
pending_eq-Decides a b = (pending_eq-same a b, λ e. subst (λ x. pending_eq a x ≡ true) e (pending_eq-self a))

-- To be equal is an equivalence of items.
pub item_equal : IsEquivalence item_eq
item_equal = decided item_eq item_eq-Decides

-- To be equal is an equivalence of lists of items.
pub items_equal : IsEquivalence items_eq
items_equal = decided items_eq items_eq-Decides

-- To be equal is an equivalence of scalars.
pub scalars_equal : IsEquivalence scalar_eq
scalars_equal = decided scalar_eq scalar_eq-Decides

-- To be equal is an equivalence of pending values.
pub pending_equal : IsEquivalence pending_eq
pending_equal = decided pending_eq pending_eq-Decides

-- So it is a partial one of items.
pub item_equal_partly : IsPartialEquivalence item_eq
item_equal_partly = partial_equiv_from_equiv item_equal

-- So it is a partial one of lists of items.
pub items_equal_partly : IsPartialEquivalence items_eq
items_equal_partly = partial_equiv_from_equiv items_equal

-- So it is a partial one of scalars.
pub scalars_equal_partly : IsPartialEquivalence scalar_eq
scalars_equal_partly = partial_equiv_from_equiv scalars_equal

-- So it is a partial one of pending values.
pub pending_equal_partly : IsPartialEquivalence pending_eq
pending_equal_partly = partial_equiv_from_equiv pending_equal
