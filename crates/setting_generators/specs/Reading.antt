-- Which generators a text spells, or why it spells none.
use Rattle.std.specs.Prelude.{◌≡◌, ◌<◌, ◌⊎◌, ℕ, List, [], ◌∷◌, ◌++◌, codes, false, IsTrue, length, Option, Some, None, option_map, unwrap_or, Result, Ok, Err}
use Rattle.std.specs.List.{list_any}
use Rattle.std.specs.List.Sorted.{IsPermutation}
use Rattle.std.specs.Ordering.{eq_by_cmp}
use Rattle.json_trees.specs.Collected.{result_map}
use Rattle.key_names.specs.Key.{is_prefix}
use Rattle.key_names.specs.Order.{key_cmp}
use Rattle.key_names.specs.Spelling.{SpellsKey}
use Rattle.settings_tree.specs.Content.{settings_key}
use Rattle.toml.specs.Data.{Data, Members}
use Rattle.toml_values.specs.Document.{table_of, named}
use Rattle.toml_values.specs.Values.{text_of}
use Rattle.toml_values.specs.Words.{words_in}
use Rattle.typed_settings.specs.Row.{IsKnown}
use Rattle.typed_settings.specs.declared.row.Row.{Row}
use Rattle.setting_generators.specs.Generators.{Path, Given, IsRising}
use Rattle.setting_generators.specs.declared.generators_error.GeneratorsError.{GeneratorsError}
use Rattle.setting_generators.specs.declared.generators_error.GeneratorsKind.{GeneratorsKind}
use Rattle.setting_generators.specs.declared.generators_error.GeneratorsKind.TheVariants.{NotToml, BadKey, IllTyped, BadCommand}

-- An entry of the table: a name with its value.
abbrev pub Entry : Type 0
Entry = List ℕ × Data

-- What entries are read to: generators in the order of the entries, or a fault.
abbrev pub Outcome : Type 0
Outcome = Result (List Given) GeneratorsError

-- The fault of this kind, at this name.
abbrev pub fault_at : GeneratorsKind → List ℕ → GeneratorsError
fault_at kind at = record { kind = kind; at = at }

-- ---- an entry

-- The text spells this key, which begins with `settings` and is none of these.
pub record SpellsNew (keys : List Path) (text : List ℕ) (key : Path) : Type 0 where
  pub spelled : SpellsKey text key
  pub begins : IsTrue (is_prefix settings_key key)
  pub new : list_any (eq_by_cmp key_cmp key) keys ≡ false

-- The words of a value that is a text; another value has none.
abbrev pub command_of : Data → List (List ℕ)
command_of value = unwrap_or (option_map words_in (text_of value)) []

-- After entries of these keys the entry is this generator: its name spells a new key that some row of the types matches, and its text has a word.
pub record IsGenerator (table : List Row) (keys : List Path) (entry : Entry) (generator : Given) : Type 0 where
  pub key : SpellsNew keys entry.0 generator.0
  pub known : IsKnown table generator.0
  pub words : generator.1 ≡ command_of entry.1
  pub some : 0 < length generator.1

-- After entries of these keys the entry is none, for this cause.
pub data IsBad (table : List Row) (keys : List Path) (entry : Entry) : GeneratorsKind → Type 0 where
  -- The name spells no new key.
  no_key : ((key : Path) → SpellsNew keys entry.0 key → ⊥) → IsBad table keys entry BadKey
  -- It does, but no row matches the key.
  unknown : (key : Path) → SpellsNew keys entry.0 key → (IsKnown table key → ⊥) → IsBad table keys entry IllTyped
  -- One does, but there is no word.
  no_word : (key : Path) → SpellsNew keys entry.0 key → IsKnown table key → command_of entry.1 ≡ [] → IsBad table keys entry BadCommand

-- ---- the entries

-- The outcome with a generator before the others.
abbrev pub with_first : Given → Outcome → Outcome
with_first generator outcome = result_map (λ generators. generator ∷ generators) outcome

-- The first entry is this generator, and so on with those after it.
pub record GoesOn (Rest : List Path → Outcome → Type 0) (table : List Row) (keys : List Path) (entry : Entry) (outcome : Outcome) : Type 0 where
  pub generator : Given
  pub is : IsGenerator table keys entry generator
  pub rest : Outcome
  pub others : Rest (keys ++ generator.0 ∷ []) rest
  pub outcome_is : outcome ≡ with_first generator rest

-- The first entry is none, and that is the outcome.
pub record Stops (table : List Row) (keys : List Path) (entry : Entry) (outcome : Outcome) : Type 0 where
  pub kind : GeneratorsKind
  pub bad : IsBad table keys entry kind
  pub outcome_is : outcome ≡ Err (fault_at kind entry.0)

-- After entries of these keys the entries are read to this outcome: one generator for each, or the fault of the first that is none.
abbrev pub Reads : List Row → List Path → List Entry → Outcome → Type 0
Reads table keys [] outcome = outcome ≡ Ok []
Reads table keys (entry ∷ entries) outcome = GoesOn (λ more rest. Reads table more entries rest) table keys entry outcome ⊎ Stops table keys entry outcome

-- ---- the text

-- With these types the text spells the generators: those of the entries of its table, in the order of their keys.
pub record Spells (table : List Row) (text : List ℕ) (generators : List Given) : Type 0 where
  pub document : Members
  pub read : table_of text ≡ Some document
  pub listed : List Given
  pub entries : Reads table [] (named document) (Ok listed)
  pub in_order : IsPermutation listed generators
  pub rising : IsRising generators

-- The fault is that of the first entry which is no generator.
abbrev pub HasFault : List Row → Option Members → GeneratorsError → Type 0
HasFault table None fault = fault ≡ fault_at NotToml (codes "-")
HasFault table (Some document) fault = Reads table [] (named document) (Err fault)

-- With these types the text has this fault: it is no TOML, or else the first of its entries that is no generator is of this kind and name.
abbrev pub IsFault : List Row → List ℕ → GeneratorsKind → List ℕ → Type 0
IsFault table text kind at = HasFault table (table_of text) (fault_at kind at)
