-- The JSON value of what is held has no number with a fraction.
use Rattle.std.proofs.Common.{◌≡◌, ℕ, ℤ, pos, negsuc, List, [], ◌∷◌, map, Bool, false, ◌||◌, refl}
use Rattle.std.specs.FinMap.{FinMap, entries}
use Rattle.serde_json.specs.Data.{Data}
use Rattle.serde_json.specs.Find.{is_float, of_integer}
use Rattle.serde_json.specs.View.{items_of}
use Rattle.serde_json.specs.Written.{has_float, items_have_float}
use Rattle.key_names.specs.Order.{key_cmp}
use Rattle.json_trees.specs.Scalar.{item_data, scalar_data}
use Rattle.json_trees.specs.Tree.{pending_data}
use Rattle.json_trees.specs.declared.item.Item.{Item}
use Rattle.json_trees.specs.declared.item.Item.TheVariants as item
use Rattle.json_trees.specs.declared.pending.Pending.{Pending}
use Rattle.json_trees.specs.declared.pending.Pending.TheVariants.{Put, Gone}
use Rattle.json_trees.specs.declared.scalar.Scalar.{Scalar}
use Rattle.json_trees.specs.declared.scalar.Scalar.TheVariants as scalar
use Rattle.settings_tree.specs.declared.entry.Owed.{Owed}
use Rattle.settings_tree.specs.declared.entry.Owed.TheVariants.{All, Keys}
use Rattle.settings_tree.specs.declared.held.Held.{Held}
use Rattle.held_text.specs.HeldText.{Row, rows, key_data, keys_data, pair_data, map_data}
use Rattle.held_text.specs.HeldText.{row_data, metadata_data, transaction_data, pending_maps_data, owed_data, image_data, held_data}

both : (a b : Bool) → a ≡ false → b ≡ false → (a || b) ≡ false
both a b one other = λ i. one i || other i

listed : {E : Type 0} (f : E → Data) → ((e : E) → has_float (f e) ≡ false) → (es : List E) → items_have_float (items_of (map f es)) ≡ false
listed f none [] = refl
listed f none (e ∷ es) = both (has_float (f e)) (items_have_float (items_of (map f es))) (none e) (listed f none es)

whole : (z : ℤ) → is_float (of_integer z) ≡ false
whole (pos n) = refl
whole (negsuc n) = refl

of_item : (i : Item) → has_float (item_data i) ≡ false
of_item (item.Bool b) = refl
of_item (item.Int z) = whole z
of_item (item.Text s) = refl

of_scalar : (s : Scalar) → has_float (scalar_data s) ≡ false
of_scalar (scalar.Bool b) = refl
of_scalar (scalar.Int z) = whole z
of_scalar (scalar.Text s) = refl
of_scalar (scalar.List items) = listed item_data of_item items

of_pending : (p : Pending) → has_float (pending_data p) ≡ false
of_pending (Put s) = of_scalar s
of_pending Gone = refl

-- A list of two values, and one of three.
two : (a b : Bool) → a ≡ false → b ≡ false → (a || (b || false)) ≡ false
two a b one other = both a (b || false) one (both b false other refl)

of_map : {V : Type 0} (written : V → Data) → ((v : V) → has_float (written v) ≡ false) → (m : FinMap key_cmp V) → has_float (map_data written m) ≡ false
of_map written none m = listed (pair_data written) (λ pair. two false (has_float (written pair.1)) refl (none pair.1)) (entries m)

of_row : (row : Row) → has_float (row_data row) ≡ false
of_row row = both false _ refl (two false (has_float (scalar_data row.2)) refl (of_scalar row.2))

of_transaction : (t : List ℕ × FinMap key_cmp Pending) → has_float (transaction_data t) ≡ false
of_transaction t = two false (has_float (map_data pending_data t.1)) refl (of_map pending_data of_pending t.1)

of_keys : (keys : List (List (List ℕ))) → has_float (keys_data keys) ≡ false
of_keys keys = listed key_data (λ key. refl) keys

of_owed : (owed : Owed) → has_float (owed_data owed) ≡ false
of_owed All = refl
of_owed (Keys keys) = of_keys keys

-- The value of what is held has none.
pub no_float : (h : Held) → has_float (held_data h) ≡ false
no_float h =
    both (has_float (image_data h.image)) _ refl
    (both (has_float (map_data scalar_data h.live.values)) _ (of_map scalar_data of_scalar h.live.values)
    (both (has_float (metadata_data h.live.metadata)) _ (listed row_data of_row (rows h.live.metadata))
    (both (has_float (owed_data h.owed)) _ (of_owed h.owed)
    (both (has_float (pending_maps_data h.pending)) _ (listed transaction_data of_transaction (entries h.pending))
    (both (has_float (keys_data h.live.weak)) false (of_keys h.live.weak) refl)))))
