-- Texts that spell what is held.
use Rattle.std.specs.Prelude.{◌≡◌, false, ℕ, List, Some}
use Rattle.serde_json.specs.Data.{Data}
use Rattle.serde_json.specs.Read.{read}
use Rattle.serde_json.specs.Written.{compact_text, has_float}
use Rattle.json_trees.specs.Json.{data_of}
use Rattle.held_text.specs.HeldText.{held_data}
use Rattle.held_text.specs.HeldRules.{IsHeld}
use Rattle.settings_tree.specs.declared.held.Held.{Held}

-- The text is JSON, in whatever spelling, with the value of the held text of something that a store may hold.
pub record SpellsHeld (text : List ℕ) (held : Held) : Type 0 where
  pub valid : IsHeld held
  pub value_is : data_of text ≡ Some (held_data held)

-- ---- for private clauses

-- The text is JSON, and the other is the compact text of its value, as far as this is without fractions.
pub record IsCompact (text compact : List ℕ) : Type 0 where
  pub value : Data
  pub value_is : data_of text ≡ Some value
  pub reads_back : read compact ≡ Some value
  pub compact_is : has_float value ≡ false → compact ≡ compact_text value
