-- Where the paths of a template lead.
use Rattle.std.specs.Prelude.{ℕ, pos, ◌-◌, List, [], ◌++◌, length, slice_index_or, Option, Some, None, if◌then◌else◌}
use Rattle.std.specs.Option.{option_map_or}
use Rattle.key_names.specs.Key.{is_key}
use Rattle.json_trees.specs.declared.item.Item.{Item}
use Rattle.json_trees.specs.declared.item.Item.TheVariants as value
use Rattle.settings_tree.specs.declared.os.OsName.{OsName}
use Rattle.template_reader.specs.declared.walk.Walk.{Walk}
use Rattle.template_reader.specs.declared.walk.Walk.TheVariants.{Root, This, AtKey, AtIndex}

-- A list of names.
abbrev pub Path : Type 0
Path = List (List ℕ)

-- Where a path leads: nowhere, to a path of the tree, to a name of the operating system, to an item of a list,
-- or to what the key of a child is called.
pub data Place : Type 0 where
  nowhere : Place
  in_tree : Path → Place
  system : OsName → Place
  item : Item → Place
  label : List ℕ → Place

-- The item of a list, or the child of a map, for which the first part of an each is rendered, and its index.
pub record Here : Type 0 where
  pub this : Place
  pub index : ℕ

-- The last name of a path.
abbrev pub last_name : Path → List ℕ
last_name path = slice_index_or path (length path - 1) []

-- An index is a whole number.
abbrev pub index_place : ℕ → Place
index_place n = item (value.Int (pos n))

-- What the key of an item or a child is: the name of a child, the index of an item.
abbrev pub key_place : Place → ℕ → Place
key_place nowhere n = nowhere
key_place (in_tree path) n = label (last_name path)
key_place (system s) n = label s.name
key_place (item i) n = index_place n
key_place (label name) n = nowhere

-- The place below another, by these names. Nothing is at a path that is beyond the limits of keys.
abbrev pub place_below : Place → Path → Place
place_below nowhere names = nowhere
place_below (in_tree path) names = if is_key (path ++ names) then in_tree (path ++ names) else nowhere
place_below (system s) names = nowhere
place_below (item i) names = nowhere
place_below (label name) names = nowhere

-- Where a path leads: from the root, or from the item or the child of the innermost each, if there is one.
abbrev pub place_at : Option Here → Walk → Place
place_at here (Root key) = in_tree key
place_at here (This None) = option_map_or (λ h. h.this) here nowhere
place_at here (This (Some key)) = option_map_or (λ h. place_below h.this key) here nowhere
place_at here AtKey = option_map_or (λ h. key_place h.this h.index) here nowhere
place_at here AtIndex = option_map_or (λ h. index_place h.index) here nowhere
