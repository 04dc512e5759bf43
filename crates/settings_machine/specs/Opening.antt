-- The opening step, on what a store holds.
use Rattle.std.specs.Prelude.{Bool, not, ◌&&◌, ◌||◌, List, [], ◌∷◌, map, filter, if◌then◌else◌}
use Rattle.std.specs.FinMap.{FinMap, contains_key, insert, retain_keys, entries}
use Rattle.std.specs.Str.{bytes_eq}
use Rattle.key_names.specs.Order.{key_cmp}
use Rattle.json_trees.specs.declared.scalar.Scalar.{Scalar}
use Rattle.settings_tree.specs.declared.entry.Owed.{Owed}
use Rattle.settings_tree.specs.declared.entry.Owed.TheVariants.{All}
use Rattle.settings_tree.specs.declared.held.Held.{Held}
use Rattle.settings_maps.specs.KeyList.{joined}
use Rattle.pending_tx.specs.Transactions.{owing}
use Rattle.settings_machine.specs.World.{Key, Image}
use Rattle.settings_machine.specs.Typed.{is_of_image}

-- Values by key.
abbrev pub Values : Type 0
Values = FinMap key_cmp Scalar

-- The key is not that of a service or of a configuration file: the store says what is there.
abbrev pub is_of_store : Key → Bool
is_of_store key = not (is_of_image key)

-- The values, with each of these entries at a key where there was none.
abbrev pub filled : Values → List (Key × Scalar) → Values
filled values [] = values
filled values (e ∷ es) = filled (if contains_key values e.0 then values else insert values e.0 e.1) es

-- The live settings, with the defaults at each key that has none: services and configuration files are those of the
-- defaults, and there is a default setting where there is no live one.
abbrev pub opened_values : Values → Values → Values
opened_values defaults live = filled (retain_keys live is_of_store) (entries defaults)

-- The keys of the default settings that have no live value, rising.
abbrev pub added_keys : Values → Values → List Key
added_keys defaults live = map (λ e. e.0) (filter (λ e. is_of_store e.0 && not (contains_key live e.0)) (entries defaults))

-- All is owed at a boot and where another image's text is stored, and else the added keys too.
abbrev pub opened_owed : Image → Held → Bool → Owed
opened_owed I held boot =
    if boot || not (bytes_eq held.image I.text) then All else owing held.owed (added_keys I.defaults.values held.live.values)

-- What is held after the opening step: services, files and metadata are the image's, the added defaults are weak, and the
-- image's text is stored. What is pending stays.
abbrev pub opened_held : Image → Held → Bool → Held
opened_held I held boot = record {
  live = record {
    values = opened_values I.defaults.values held.live.values;
    metadata = I.defaults.metadata;
    weak = joined held.live.weak (added_keys I.defaults.values held.live.values);
  };
  pending = held.pending;
  owed = opened_owed I held boot;
  image = I.text;
}
