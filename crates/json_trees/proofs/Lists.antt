-- Lists of items as JSON arrays.
use Rattle.std.proofs.Common.{◌≡◌, List, [], ◌∷◌, ◌++◌, Some, Ok, map, refl, sym, ap, ◌∙◌, append_assoc, arith}
use Rattle.std.specs.List.{flat_map, AllByRecursion}
use Rattle.json.specs.Token as token
use Rattle.json.specs.Tree.{items_tokens, ItemsHaveNumbers}
use Rattle.serde_json.specs.Data.{Items, array, depth, items_depth}
use Rattle.serde_json.specs.Read.{of_items}
use Rattle.serde_json.specs.View.{items_of}
use Rattle.serde_json.specs.Written.{items_outline}
use Rattle.json_trees.specs.Collected.{collected}
use Rattle.json_trees.specs.Scalar.{item_of, item_data}
use Rattle.json_trees.specs.Written.{data_tokens, ItemInRange, IsReadable}
use Rattle.json_trees.specs.declared.item.Item.{Item}
use Rattle.json_trees.specs.declared.item.Item.TheVariants as item
use Rattle.json_trees.proofs.Integers.{IsReadable-of_integer, as_i64-of_integer}

-- the JSON values of some items, as an array has them
abbrev pub items_data : List Item → Items
items_data items = items_of (map item_data items)

items_tokens-items_data : (items : List Item) → items_tokens (items_outline (items_data items)) ≡ flat_map (λ item. data_tokens (item_data item)) items
    ++ token.end_array ∷ []
items_tokens-items_data [] = refl
items_tokens-items_data (i ∷ items) =
    ap (λ ts. data_tokens (item_data i) ++ ts) (items_tokens-items_data items)
    ∙ sym (append_assoc (data_tokens (item_data i)) (flat_map (λ item. data_tokens (item_data item)) items) (token.end_array ∷ []))

-- the tokens of an array of items are those of its items in brackets
pub written_array : (items : List Item) (start opened filled closed : List token.Token) → opened ≡ start ++ token.begin_array ∷ []
    → filled ≡ opened ++ flat_map (λ item. data_tokens (item_data item)) items → closed ≡ filled ++ token.end_array ∷ []
    → closed ≡ start ++ data_tokens (array (items_data items))
written_array items start opened filled closed a b c =
    let inside = flat_map (λ (i : Item). data_tokens (item_data i)) items in
    c ∙ ap (λ ts. ts ++ token.end_array ∷ []) (b ∙ ap (λ ts. ts ++ inside) a)
    ∙ append_assoc (start ++ token.begin_array ∷ []) inside (token.end_array ∷ [])
    ∙ append_assoc start (token.begin_array ∷ []) (inside ++ token.end_array ∷ [])
    ∙ ap (λ ts. start ++ token.begin_array ∷ ts) (sym (items_tokens-items_data items))

IsReadable-item_data : (i : Item) → ItemInRange i → IsReadable 0 (item_data i)
IsReadable-item_data (item.Bool b) h = record { reads_back = refl; numbers = tt; shallow = omega arith }
IsReadable-item_data (item.Int z) h = IsReadable-of_integer 0 z h
IsReadable-item_data (item.Text s) h = record { reads_back = refl; numbers = tt; shallow = omega arith }

item_of-item_data : (i : Item) → ItemInRange i → item_of (item_data i) ≡ Ok i
item_of-item_data (item.Bool b) h = refl
item_of-item_data (item.Int z) h = rw (as_i64-of_integer z h) refl
item_of-item_data (item.Text s) h = refl

-- items in range read back from their array
pub of_items-items_data : (items : List Item) → AllByRecursion ItemInRange items → of_items (items_outline (items_data items)) ≡ Some (items_data items)
of_items-items_data [] h = refl
of_items-items_data (i ∷ items) h = rw ((IsReadable-item_data i h.0).reads_back, of_items-items_data items h.1) refl

-- the numbers of items in range are numbers of JSON
pub numbers-items_data : (items : List Item) → AllByRecursion ItemInRange items → ItemsHaveNumbers (items_outline (items_data items))
numbers-items_data [] h = tt
numbers-items_data (i ∷ items) h = ((IsReadable-item_data i h.0).numbers, numbers-items_data items h.1)

depth-item_data : (i : Item) → depth (item_data i) ≡ 0
depth-item_data (item.Bool b) = refl
depth-item_data (item.Int z) = refl
depth-item_data (item.Text s) = refl

-- items do not nest
pub depth-items_data : (items : List Item) → items_depth (items_data items) ≡ 0
depth-items_data [] = refl
depth-items_data (i ∷ items) = rw (depth-item_data i, depth-items_data items) refl

-- the values of items in range are these items
pub collected-item_data : (items : List Item) → AllByRecursion ItemInRange items → collected item_of (map item_data items) ≡ Ok items
collected-item_data [] h = refl
collected-item_data (i ∷ items) h = rw (item_of-item_data i h.0, collected-item_data items h.1) refl
