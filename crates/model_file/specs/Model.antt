-- Which model a text is, or why it is none.
use Rattle.std.specs.Prelude.{◌≡◌, ℕ, List, map, codes, Option, Some, None, IsSome}
use Rattle.std.specs.FinMap.{FinMap, get}
use Rattle.std.specs.List.{AllByRecursion, join_with_byte}
use Rattle.json_trees.specs.declared.scalar.Scalar.{Scalar}
use Rattle.key_names.specs.Order.{key_cmp}
use Rattle.typed_settings.specs.Order.{IsTable}
use Rattle.typed_settings.specs.Row.{IsKnown, IsTableOf, IsTyped}
use Rattle.typed_settings.specs.declared.row.Row.{Row}
use Rattle.model_file.specs.Entries.{Path}
use Rattle.toml.specs.Data.{Members}
use Rattle.toml_values.specs.Document.{table_of}
use Rattle.model_file.specs.Rows.{row_texts}
use Rattle.model_file.specs.Checks.{Check, Holds, checks, kind_of, path_of, IsFirstFailing}
use Rattle.model_file.specs.Contents.{os_names, contents_of}
use Rattle.model_file.specs.declared.model.Model.{Model}
use Rattle.model_file.specs.declared.model_error.ModelKind.{ModelKind}
use Rattle.model_file.specs.declared.model_error.ModelKind.TheVariants.{NotToml}

-- The model has the table of the document's rows, its names of the operating system, and its values and metadata.
pub record IsModelOf (document : Members) (model : Model) : Type 0 where
  pub types : IsTableOf (row_texts document) model.types
  pub os : map (λ n. (n.name, n.text)) model.os ≡ os_names document
  pub content : model.content ≡ contents_of document

-- The text is a document for which all checks hold, and this is its model.
pub record Spells (text : List ℕ) (model : Model) : Type 0 where
  pub document : Members
  pub read : table_of text ≡ Some document
  pub hold : AllByRecursion (Holds (row_texts document)) (checks document)
  pub model_is : IsModelOf document model

-- The names of a path, joined by `/`.
abbrev pub printed_path : List (List ℕ) → List ℕ
printed_path path = join_with_byte 47 path

-- The fault is that of the first check which fails.
abbrev pub HasFault : Option Members → ModelKind → List ℕ → Type 0
HasFault None kind at = (kind ≡ NotToml) × (at ≡ codes "-")
HasFault (Some document) kind at =
    (check : Check) × IsFirstFailing (row_texts document) (checks document) check × (kind ≡ kind_of check) × (at ≡ printed_path (path_of check))

-- The text has this fault: it is no TOML, or else its first check that fails is of this kind and at this path.
abbrev pub IsFault : List ℕ → ModelKind → List ℕ → Type 0
IsFault text kind at = HasFault (table_of text) kind at

-- ---- what follows

-- Each key that has a value is known to the types.
abbrev pub AreKnown : List Row → FinMap key_cmp Scalar → Type 0
AreKnown table values = (key : Path) → IsSome (get values key) → IsKnown table key

-- The types take each value at its key.
abbrev pub AreTyped : List Row → FinMap key_cmp Scalar → Type 0
AreTyped table values = (key : Path) (value : Scalar) → get values key ≡ Some value → IsTyped table key value

-- Both models have the same types, names of the operating system, values and metadata.
pub record AreSame (one other : Model) : Type 0 where
  pub types : one.types ≡ other.types
  pub os : one.os ≡ other.os
  pub content : one.content ≡ other.content

-- A text spells one model at most.
abbrev pub SpellsOnce : Type 0
SpellsOnce = (text : List ℕ) (one other : Model) → IsTable one.types → IsTable other.types → Spells text one → Spells text other → AreSame one other
