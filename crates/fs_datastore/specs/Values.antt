-- What is at a place, and the bytes of its file.
use Rattle.std.specs.Prelude.{◌≡◌, ℕ, List, map, codes, Bool, true, false, Option, Some, Ok, option_map}
use Rattle.std.specs.FinMap.{get}
use Rattle.serde_json.specs.Data.{null}
use Rattle.key_names.specs.Key.{printed}
use Rattle.json_trees.specs.Json.{data_of}
use Rattle.json_trees.specs.Scalar.{scalar_read, json_text}
use Rattle.json_trees.specs.declared.item.Item.TheVariants as item
use Rattle.json_trees.specs.declared.scalar.Scalar.{Scalar}
use Rattle.json_trees.specs.declared.scalar.Scalar.TheVariants as scalar
use Rattle.json_trees.specs.declared.pending.Pending.{Pending}
use Rattle.json_trees.specs.declared.pending.Pending.TheVariants.{Put, Gone}
use Rattle.settings_maps.specs.Maps.{value_at}
use Rattle.settings_tree.specs.Change.{Place}
use Rattle.settings_tree.specs.Change.{Live, Meta, Pend, TheOwed, TheImage, TheWeak}
use Rattle.settings_tree.specs.declared.entry.Owed.{Owed}
use Rattle.settings_tree.specs.declared.entry.Owed.TheVariants.{All, Keys}
use Rattle.settings_tree.specs.declared.held.Held.{Held}
use Rattle.settings_tree.specs.Owed.{IsKeyList, IsOwed}

-- What is at a place: a live value or metadata, a pending value or removal, the owed keys, the image text, or the weak keys.
pub data Value : Type 0 where
  live : Scalar → Value
  pending : Pending → Value
  owed : Owed → Value
  image : List ℕ → Value
  weak : List (List (List ℕ)) → Value

-- What is held at a place, where this is what the file `weak` lists, if it is there.
abbrev pub value_in : Held → Option (List (List (List ℕ))) → Place → Option Value
value_in held listed (Live key) = option_map live (get held.live.values key)
value_in held listed (Meta key name) = option_map live (value_at held.live.metadata key name)
value_in held listed (Pend tx key) = option_map pending (value_at held.pending tx key)
value_in held listed TheOwed = Some (owed held.owed)
value_in held listed TheImage = Some (image held.image)
value_in held listed TheWeak = option_map weak listed

-- ---- the bytes

-- Keys are written as a JSON list of their printed texts.
abbrev pub list_of : List (List (List ℕ)) → Scalar
list_of keys = scalar.List (map (λ key. item.Text (printed key)) keys)

-- The owed keys are written as such a list, or as the text `all`.
abbrev pub owed_scalar : Owed → Scalar
owed_scalar All = scalar.Text (codes "all")
owed_scalar (Keys keys) = list_of keys

-- The bytes are JSON of the scalar, in its compact spelling.
pub record IsCompact (bytes : List ℕ) (value : Scalar) : Type 0 where
  pub reads : scalar_read bytes ≡ Ok value
  pub compact : bytes ≡ json_text value

-- The bytes of the file of a value: any JSON spelling of a scalar, or of `null` for a removal; the compact text of owed or weak keys; the image text itself.
abbrev pub Spells : List ℕ → Value → Type 0
Spells bytes (live value) = scalar_read bytes ≡ Ok value
Spells bytes (pending (Put value)) = scalar_read bytes ≡ Ok value
Spells bytes (pending Gone) = data_of bytes ≡ Some null
Spells bytes (owed keys) = IsOwed keys × IsCompact bytes (owed_scalar keys)
Spells bytes (image text) = bytes ≡ text
Spells bytes (weak keys) = IsKeyList keys × IsCompact bytes (list_of keys)

-- The value is of the kind that is at the place.
abbrev pub is_for : Place → Value → Bool
is_for (Live key) (live value) = true
is_for (Meta key name) (live value) = true
is_for (Pend tx key) (pending value) = true
is_for TheOwed (owed keys) = true
is_for TheImage (image text) = true
is_for TheWeak (weak keys) = true
is_for _ _ = false
