-- The opening step, with what an opening needs of an image.
use Rattle.std.specs.Prelude.{◌≡◌, ℕ, Bool, true, List, IsSome}
use Rattle.std.specs.FinMap.{get}
use Rattle.key_names.specs.Key.{is_prefix}
use Rattle.settings_tree.specs.Content.{Contents, settings_key}
use Rattle.settings_tree.specs.Laid.{laid}
use Rattle.settings_tree.specs.declared.entry.Entry.{Entry}
use Rattle.settings_tree.specs.declared.held.Held.{Held}
use Rattle.typed_settings.specs.Row.{IsKnown, IsPrefixFree}
use Rattle.typed_settings.specs.declared.row.Row.{Row}
use Rattle.settings_machine.specs.World.{Key, Image}
use Rattle.settings_machine.specs.Opening.{Values, is_of_store, opened_held}
use Rattle.settings_machine.specs.Typed.{IsTypedHeld}

-- Of these values, those that are not of a service or a file are settings.
abbrev pub AreSettings : Values → Type 0
AreSettings values = (key : Key) → IsSome (get values key) → is_of_store key ≡ true → is_prefix settings_key key ≡ true

-- There is a table of types, in which no known key begins another, that knows each default and takes what is held.
pub record HasTypes (defaults : Contents) (held : Held) : Type 0 where
  pub types : List Row
  pub free : IsPrefixFree types
  pub known : (key : Key) → IsSome (get defaults.values key) → IsKnown types key
  pub fit : IsTypedHeld types held

-- In each image of these defaults and this text, the change makes of what is held what the opening step does.
pub record MakesStep (boot : Bool) (defaults : Contents) (text : List ℕ) (held : Held) (change : List Entry) : Type 0 where
  pub laid_is : (I : Image) → I.defaults ≡ defaults → I.text ≡ text → laid held change ≡ opened_held I held boot
