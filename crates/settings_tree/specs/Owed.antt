-- Lists of keys that are stored.
use Rattle.std.specs.Prelude.{ℕ, List, IsTrue, ⊤}
use Rattle.std.specs.List.{list_all}
use Rattle.key_names.specs.Key.{is_key}
use Rattle.settings_maps.specs.KeyList.{IsRising}
use Rattle.settings_tree.specs.declared.entry.Owed.{Owed}
use Rattle.settings_tree.specs.declared.entry.Owed.TheVariants.{All, Keys}

-- A list of keys, each below those after it.
pub record IsKeyList (keys : List (List (List ℕ))) : Type 0 where
  pub rising : IsRising keys
  pub valid : IsTrue (list_all is_key keys)

-- Owed keys are such a list, where they are not all.
abbrev pub IsOwed : Owed → Type 0
IsOwed All = ⊤
IsOwed (Keys keys) = IsKeyList keys
