-- For private clauses: the entries of the opening step, part by part.
use Rattle.std.specs.Prelude.{◌≡◌, ℕ, Bool, true, false, not, ◌&&◌, ◌||◌, List, [], ◌∷◌, ◌++◌, Option, Some, None, flat_map, if◌then◌else◌}
use Rattle.std.specs.List.{list_all}
use Rattle.std.specs.Str.{bytes_eq}
use Rattle.std.specs.FinMap.{FinMap, get, entries}
use Rattle.key_names.specs.Order.{bytes_cmp, key_cmp}
use Rattle.json_trees.specs.Equal.{scalar_eq}
use Rattle.json_trees.specs.declared.scalar.Scalar.{Scalar}
use Rattle.settings_maps.specs.KeyList.{has_key, joined}
use Rattle.settings_maps.specs.Maps.{value_at}
use Rattle.settings_maps.specs.KeyList.{IsRising}
use Rattle.settings_tree.specs.Content.{Contents}
use Rattle.settings_tree.specs.declared.entry.Entry.{Entry}
use Rattle.settings_tree.specs.declared.entry.Entry.TheVariants.{LiveSet, LiveGone, MetaSet, MetaGone, OwedSet, ImageSet, WeakIs}
use Rattle.settings_tree.specs.declared.entry.Owed.{Owed}
use Rattle.settings_tree.specs.declared.entry.Owed.TheVariants as owed
use Rattle.settings_tree.specs.declared.held.Held.{Held}
use Rattle.settings_machine.specs.Opening.{is_of_store}

-- The value is to be set where none is live, and for a service or a file also where another is.
abbrev pub is_wanted : Bool → Scalar → Option Scalar → Bool
is_wanted setting value None = true
is_wanted setting value (Some now) = not setting && not (scalar_eq now value)

-- The entry that sets a value of the image, if it is to be set.
abbrev pub value_entries : FinMap key_cmp Scalar → List (List ℕ) × Scalar → List Entry
value_entries live e = if is_wanted (is_of_store e.0) e.1 (get live e.0) then LiveSet e.0 e.1 ∷ [] else []

-- Nothing is there.
abbrev pub is_absent : Option Scalar → Bool
is_absent None = true
is_absent (Some v) = false

-- The entry that takes away a live service or file that the image lacks.
abbrev pub gone_entries : FinMap key_cmp Scalar → List (List ℕ) → List Entry
gone_entries image key = if not (is_of_store key) && is_absent (get image key) then LiveGone key ∷ [] else []

-- The metadata is to be set where none is live, or another is.
abbrev pub differs : Scalar → Option Scalar → Bool
differs value None = true
differs value (Some now) = not (scalar_eq now value)

-- The entry that sets metadata of the image at a key, if it differs.
abbrev pub name_entries : FinMap key_cmp (FinMap bytes_cmp Scalar) → List (List ℕ) → List ℕ × Scalar → List Entry
name_entries live key e = if differs e.1 (value_at live key e.0) then MetaSet key e.0 e.1 ∷ [] else []

-- The entries that set metadata of the image.
abbrev pub key_entries : FinMap key_cmp (FinMap bytes_cmp Scalar) → List (List ℕ) × FinMap bytes_cmp Scalar → List Entry
key_entries live e = flat_map (name_entries live e.0) (entries e.1)

-- The entry that takes away live metadata at a key that the image lacks.
abbrev pub gone_name_entries : FinMap key_cmp (FinMap bytes_cmp Scalar) → List (List ℕ) → List ℕ → List Entry
gone_name_entries image key name = if is_absent (value_at image key name) then MetaGone key name ∷ [] else []

-- The entries that take away live metadata.
abbrev pub gone_key_entries : FinMap key_cmp (FinMap bytes_cmp Scalar) → List (List ℕ) × FinMap bytes_cmp Scalar → List Entry
gone_key_entries image e = flat_map (λ n. gone_name_entries image e.0 n.0) (entries e.1)

-- The key of a default that has no live value.
abbrev pub added_key : FinMap key_cmp Scalar → List (List ℕ) → List (List (List ℕ))
added_key live key = if is_of_store key && is_absent (get live key) then key ∷ [] else []

-- The entry for the owed keys, if they change.
abbrev pub owed_entries : Bool → List (List (List ℕ)) → Owed → List Entry
owed_entries all added owed.All = []
owed_entries all added (owed.Keys before) = if all then OwedSet owed.All ∷ [] else
    (if list_all (has_key before) added then [] else OwedSet (owed.Keys (joined before added)) ∷ [])

-- Where keys are owed, they rise.
pub record OwesRising (o : Owed) : Type 0 where
  pub rises : (keys : List (List (List ℕ))) → o ≡ owed.Keys keys → IsRising keys

-- The entry for the image text, if it is another.
abbrev pub image_entries : List ℕ → List ℕ → List Entry
image_entries before text = if bytes_eq before text then [] else ImageSet text ∷ []

-- The entry for the weak keys, where a default is added.
abbrev pub weak_entries : List (List (List ℕ)) → List (List (List ℕ)) → List Entry
weak_entries weak [] = []
weak_entries weak (k ∷ ks) = WeakIs (joined weak (k ∷ ks)) ∷ []

-- The entries of the opening step.
abbrev pub opening_entries : Bool → Contents → List ℕ → Held → List Entry
opening_entries boot image text held = let added = flat_map (λ e. added_key held.live.values e.0) (entries image.values) in
    ((((flat_map (value_entries held.live.values) (entries image.values) ++ flat_map (λ e. gone_entries image.values e.0) (entries held.live.values))
    ++ flat_map (key_entries held.live.metadata) (entries image.metadata)) ++ flat_map (gone_key_entries image.metadata) (entries held.live.metadata))
    ++ (owed_entries (boot || not (bytes_eq held.image text)) added held.owed ++ (image_entries held.image text ++ weak_entries held.live.weak added)))
