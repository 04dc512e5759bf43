-- The fields of the table of a migration.
use Rattle.std.specs.Prelude.{◌≡◌, ◌<◌, ◌≤◌, ℕ, Bool, List, [], ◌∷◌, Option, Some, None, length, IsTrue}
use Rattle.std.specs.List.{list_all, list_any}
use Rattle.std.specs.Ordering.{eq_by_cmp}
use Rattle.key_names.specs.Order.{bytes_cmp}
use Rattle.key_names.specs.Key.{is_prefix}
use Rattle.key_names.specs.Spelling.{SpellsKey}
use Rattle.json_trees.specs.declared.scalar.Scalar.{Scalar}
use Rattle.settings_tree.specs.Content.{settings_key}
use Rattle.toml.specs.Data.{Data, as_array, Items, no_items, item, Members, get_member}
use Rattle.toml_values.specs.Document.{named}
use Rattle.toml_values.specs.Values.{option_cons, scalar_of, text_of}
use Rattle.toml_values.specs.Words.{words_in}

-- What a value that may be missing is read as.
abbrev pub read_by : {S T : Type 0} → (S → Option T) → Option S → Option T
read_by f None = None
read_by f (Some value) = f value

-- The texts that the values of an array are, where each is one.
abbrev pub texts_in : Items → Option (List (List ℕ))
texts_in no_items = Some []
texts_in (item d ds) = option_cons (text_of d) (texts_in ds)

-- The texts that a value is a list of.
abbrev pub texts_of : Data → Option (List (List ℕ))
texts_of value = read_by texts_in (as_array value)

-- The text of a field.
abbrev pub text_at : List ℕ → Members → Option (List ℕ)
text_at name ms = read_by text_of (get_member name ms)

-- The texts of a field.
abbrev pub texts_at : List ℕ → Members → Option (List (List ℕ))
texts_at name ms = read_by texts_of (get_member name ms)

-- The scalar of a field.
abbrev pub scalar_at : List ℕ → Members → Option Scalar
scalar_at name ms = read_by scalar_of (get_member name ms)

-- The text spells a key that begins with `settings` and has so many segments at least.
pub record SpellsSetting (least : ℕ) (text : List ℕ) (key : List (List ℕ)) : Type 0 where
  pub spelled : SpellsKey text key
  pub begins : IsTrue (is_prefix settings_key key)
  pub long : least ≤ length key

-- The texts spell such keys, one each.
abbrev pub SpellSettings : ℕ → List (List ℕ) → List (List (List ℕ)) → Type 0
SpellSettings least [] [] = Unit {0}
SpellSettings least [] (k ∷ ks) = ⊥
SpellSettings least (t ∷ ts) [] = ⊥
SpellSettings least (t ∷ ts) (k ∷ ks) = SpellsSetting least t k × SpellSettings least ts ks

-- The field is the text of such a key.
pub record HasKey (least : ℕ) (name : List ℕ) (ms : Members) (key : List (List ℕ)) : Type 0 where
  pub text : List ℕ
  pub at : text_at name ms ≡ Some text
  pub spelled : SpellsSetting least text key

-- The field is a list of the texts of such keys.
pub record HasKeys (least : ℕ) (name : List ℕ) (ms : Members) (keys : List (List (List ℕ))) : Type 0 where
  pub texts : List (List ℕ)
  pub at : texts_at name ms ≡ Some texts
  pub spelled : SpellSettings least texts keys

-- The field is a text with these words between its spaces, at least one.
pub record HasWords (name : List ℕ) (ms : Members) (words : List (List ℕ)) : Type 0 where
  pub text : List ℕ
  pub at : text_at name ms ≡ Some text
  pub words_are : words ≡ words_in text
  pub some : 0 < length words

-- Each name of the table is one of these.
abbrev pub has_only : List (List ℕ) → Members → Bool
has_only names ms = list_all (λ entry. list_any (eq_by_cmp bytes_cmp entry.0) names) (named ms)
