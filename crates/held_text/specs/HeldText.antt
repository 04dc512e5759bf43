-- The held text: what is held, as JSON.
use Rattle.std.specs.Prelude.{ℕ, List, [], ◌∷◌, map, codes}
use Rattle.std.specs.List.{flat_map}
use Rattle.std.specs.FinMap.{FinMap, entries}
use Rattle.base64.specs.GeneralPurpose.{encode_of}
use Rattle.base64.specs.Engines.{standard}
use Rattle.serde_json.specs.Data.{Data, string, array, object, Members, no_members, member}
use Rattle.serde_json.specs.View.{items_of}
use Rattle.serde_json.specs.Written.{compact_text}
use Rattle.key_names.specs.Order.{bytes_cmp, key_cmp}
use Rattle.key_names.specs.Key.{printed}
use Rattle.json_trees.specs.Scalar.{scalar_data}
use Rattle.json_trees.specs.Tree.{pending_data}
use Rattle.json_trees.specs.declared.pending.Pending.{Pending}
use Rattle.json_trees.specs.declared.scalar.Scalar.{Scalar}
use Rattle.settings_tree.specs.declared.entry.Owed.{Owed}
use Rattle.settings_tree.specs.declared.entry.Owed.TheVariants.{All, Keys}
use Rattle.settings_tree.specs.declared.held.Held.{Held}

-- A JSON list of values.
abbrev pub list_data : List Data → Data
list_data values = array (items_of values)

-- A key is its printed text.
abbrev pub key_data : List (List ℕ) → Data
key_data key = string (printed key)

-- Keys are a list of their texts.
abbrev pub keys_data : List (List (List ℕ)) → Data
keys_data keys = list_data (map key_data keys)

-- A key with what is there is a list of the two.
abbrev pub pair_data : {V : Type 0} → (V → Data) → List (List ℕ) × V → Data
pair_data written pair = list_data (key_data pair.0 ∷ written pair.1 ∷ [])

-- A map by key is the list of its pairs, rising by key.
abbrev pub map_data : {V : Type 0} → (V → Data) → FinMap key_cmp V → Data
map_data written m = list_data (map (pair_data written) (entries m))

-- A key, a name of it, and the value that is there.
abbrev pub Row : Type 0
Row = List (List ℕ) × List ℕ × Scalar

-- The rows of one key, rising by name.
abbrev pub rows_at : List (List ℕ) × FinMap bytes_cmp Scalar → List Row
rows_at names = map (λ e. (names.0, e.0, e.1)) (entries names.1)

-- The rows of metadata, rising by key and then by name.
abbrev pub rows : FinMap key_cmp (FinMap bytes_cmp Scalar) → List Row
rows m = flat_map rows_at (entries m)

-- A row is a list of the key, the name and the value.
abbrev pub row_data : Row → Data
row_data row = list_data (key_data row.0 ∷ string row.1 ∷ scalar_data row.2 ∷ [])

-- Metadata is the list of its rows.
abbrev pub metadata_data : FinMap key_cmp (FinMap bytes_cmp Scalar) → Data
metadata_data m = list_data (map row_data (rows m))

-- A transaction is a list of its name and what it has pending.
abbrev pub transaction_data : List ℕ × FinMap key_cmp Pending → Data
transaction_data t = list_data (string t.0 ∷ map_data pending_data t.1 ∷ [])

-- The pending maps are a list of the transactions, rising by name.
abbrev pub pending_maps_data : FinMap bytes_cmp (FinMap key_cmp Pending) → Data
pending_maps_data m = list_data (map transaction_data (entries m))

-- The owed keys are `"all"` or a list.
abbrev pub owed_data : Owed → Data
owed_data All = string (codes "all")
owed_data (Keys keys) = keys_data keys

-- The stored image text is in base64.
abbrev pub image_data : List ℕ → Data
image_data image = string (encode_of standard image)

-- What is held is an object of six members.
abbrev pub held_members : Held → Members
held_members h =
    member (codes "image") (image_data h.image) (
    member (codes "live") (map_data scalar_data h.live.values) (
    member (codes "meta") (metadata_data h.live.metadata) (
    member (codes "owed") (owed_data h.owed) (
    member (codes "pending") (pending_maps_data h.pending) (
    member (codes "weak") (keys_data h.live.weak) no_members)))))

-- The JSON value of what is held.
abbrev pub held_data : Held → Data
held_data h = object (held_members h)

-- The held text is the compact text of this value.
abbrev pub held_text : Held → List ℕ
held_text h = compact_text (held_data h)
