-- What a document must meet to be a model, check by check in the order in which they are made.
use Rattle.std.specs.Prelude.{◌≡◌, ℕ, Bool, ◌&&◌, ◌||◌, nat_lt, if◌then◌else◌, List, [], ◌∷◌}
use Rattle.std.specs.Prelude.{◌++◌, length, map, flat_map, codes, IsTrue, is_some, Option, Some, None, ⊤}
use Rattle.std.specs.List.{AllByRecursion, list_all, list_any}
use Rattle.std.specs.Ordering.{eq_by_cmp}
use Rattle.key_names.specs.Key.{is_key, is_prefix}
use Rattle.key_names.specs.Order.{bytes_cmp}
use Rattle.key_names.specs.Segment.{is_bare}
use Rattle.json_trees.specs.declared.scalar.Scalar.{Scalar}
use Rattle.settings_maps.specs.TxName.{is_meta_name}
use Rattle.settings_tree.specs.Content.{settings_key}
use Rattle.typed_settings.specs.Row.{SpellsRow, AreSpelled, AreApart, IsTableOf, IsTyped}
use Rattle.typed_settings.specs.declared.row.Row.{Row}
use Rattle.toml.specs.Data.{Data, Members}
use Rattle.toml_values.specs.Document.{named}
use Rattle.model_file.specs.Document.{sections, section, section_members, is_table}
use Rattle.toml_values.specs.Values.{text_of}
use Rattle.model_file.specs.Entries.{Path, members_entries, scalar_found, is_fit, has_table}
use Rattle.model_file.specs.Rows.{RowTexts, row_texts}
use Rattle.model_file.specs.declared.found.Found.{Found}
use Rattle.model_file.specs.declared.model_error.ModelKind.{ModelKind}
use Rattle.model_file.specs.declared.model_error.ModelKind.TheVariants.{UnknownSection, NotTable, BadOs, BadRow}
use Rattle.model_file.specs.declared.model_error.ModelKind.TheVariants.{RowsMeet, BadKey, BadValue, IllTyped, BadMetadata}

-- A check, with the path of the entry that it is made of.
pub data Check : Type 0 where
  -- A plain test, and the kind of the fault where it fails.
  test : Bool → ModelKind → Path → Check
  -- The texts spell a row.
  row : List ℕ × List ℕ → Path → Check
  -- Of the rows up to this one, which these texts spell, no two meet.
  apart : RowTexts → Path → Check
  -- The types take the scalar, where one is found at the key.
  typed : Path → Found → Check

-- The kind of the fault where the check fails.
abbrev pub kind_of : Check → ModelKind
kind_of (test is kind path) = kind
kind_of (row texts path) = BadRow
kind_of (apart rows path) = RowsMeet
kind_of (typed path found) = IllTyped

-- The path of the check.
abbrev pub path_of : Check → Path
path_of (test is kind path) = path
path_of (row texts path) = path
path_of (apart rows path) = path
path_of (typed path found) = path

-- The table of these rows takes the value at the key.
abbrev pub IsTaken : RowTexts → Path → Option Scalar → Type 0
IsTaken rows key None = ⊤
IsTaken rows key (Some value) = (table : List Row) × IsTableOf rows table × IsTyped table key value

-- The check holds, where these are the texts of the rows.
abbrev pub Holds : RowTexts → Check → Type 0
Holds rows (test is kind path) = IsTrue is
Holds rows (row texts path) = (spelled : Row) × SpellsRow texts spelled
Holds rows (apart upto path) = (spelled : List Row) × AreSpelled upto spelled × AreApart spelled
Holds rows (typed key found) = IsTaken rows key (scalar_found found)

-- ---- the checks of each section

-- Each top-level name is that of a section.
abbrev pub name_checks : Members → List Check
name_checks document = map (λ entry. test (list_any (eq_by_cmp bytes_cmp entry.0) sections) UnknownSection (entry.0 ∷ [])) (named document)

-- The section is a table.
abbrev pub table_check : List ℕ → Members → Check
table_check name document = test (is_table (section name document)) NotTable (name ∷ [])

-- A name of the operating system has one or more bare characters, and represents a text.
abbrev pub os_check : List ℕ × Data → Check
os_check entry = test ((nat_lt 0 (length entry.0) && list_all is_bare entry.0) && is_some (text_of entry.1)) BadOs (codes "os" ∷ entry.0 ∷ [])

-- The section `os` is a table, and each of its entries passes.
abbrev pub os_checks : Members → List Check
os_checks document = table_check (codes "os") document ∷ map os_check (named (section_members (codes "os") document))

-- The path of a row.
abbrev pub row_path : List ℕ × List ℕ → Path
row_path texts = codes "types" ∷ texts.0 ∷ []

-- With the rows before it, each row is apart.
abbrev pub apart_checks : RowTexts → RowTexts → List Check
apart_checks before [] = []
apart_checks before (texts ∷ rest) = apart (before ++ texts ∷ []) (row_path texts) ∷ apart_checks (before ++ texts ∷ []) rest

-- First each row is one, and then no two meet.
abbrev pub row_checks : RowTexts → List Check
row_checks texts = map (λ t. row t (row_path t)) texts ++ apart_checks [] texts

-- The section `types` is a table of rows.
abbrev pub types_checks : Members → List Check
types_checks document = table_check (codes "types") document ∷ row_checks (row_texts document)

-- The entries of a section, with paths that begin below it.
abbrev pub section_entries : List ℕ → Members → List (Path × Found)
section_entries name document = members_entries [] (section_members name document)

-- The names down to an entry are a key, what is there is a table or a scalar, and the types take the scalar.
abbrev pub value_checks : List ℕ → Path × Found → List Check
value_checks name entry =
    test (is_key (name ∷ entry.0)) BadKey (name ∷ entry.0) ∷ test (is_fit entry.1) BadValue (name ∷ entry.0) ∷ typed (name ∷ entry.0) entry.1 ∷ []

-- A section of values is a table, and each of its entries passes.
abbrev pub section_checks : List ℕ → Members → List Check
section_checks name document = table_check name document ∷ flat_map (value_checks name) (section_entries name document)

-- All names of a path but the last.
abbrev pub all_but_last : Path → Path
all_but_last [] = []
all_but_last (name ∷ []) = []
all_but_last (name ∷ next ∷ rest) = name ∷ all_but_last (next ∷ rest)

-- The last name of a path.
abbrev pub last_name : Path → List ℕ
last_name [] = []
last_name (name ∷ []) = name
last_name (name ∷ next ∷ rest) = last_name (next ∷ rest)

-- The key of an entry of the metadata: a table's path, and for a value the path that leads to it.
abbrev pub meta_key : Path × Found → Path
meta_key entry = if has_table entry.1 then entry.0 else all_but_last entry.0

-- The key begins with `settings`, and is one.
abbrev pub key_checks : Path × Found → List Check
key_checks entry =
    test (is_prefix settings_key (meta_key entry)) BadMetadata (codes "metadata" ∷ entry.0)
    ∷ test (is_key (meta_key entry)) BadKey (codes "metadata" ∷ entry.0) ∷ []

-- Then, what is there is a table or a scalar, and a scalar is under a metadata name.
abbrev pub meta_checks : Path × Found → List Check
meta_checks entry =
    key_checks entry
    ++ test (is_fit entry.1) BadValue (codes "metadata" ∷ entry.0)
    ∷ test (has_table entry.1 || is_meta_name (last_name entry.0)) BadMetadata (codes "metadata" ∷ entry.0) ∷ []

-- The section `metadata` is a table, and each of its entries passes.
abbrev pub metadata_checks : Members → List Check
metadata_checks document = table_check (codes "metadata") document ∷ flat_map meta_checks (section_entries (codes "metadata") document)

-- The checks of what goes into the content.
abbrev pub content_checks : Members → List Check
content_checks document =
    section_checks (codes "settings") document ++ section_checks (codes "services") document ++ section_checks (codes "configuration-files") document
    ++ metadata_checks document

-- All checks of a document, in their order.
abbrev pub checks : Members → List Check
checks document = name_checks document ++ os_checks document ++ types_checks document ++ content_checks document

-- The check is the first that fails.
pub record IsFirstFailing (rows : RowTexts) (all : List Check) (check : Check) : Type 0 where
  pub before : List Check
  pub after : List Check
  pub split : all ≡ before ++ check ∷ after
  pub hold : AllByRecursion (Holds rows) before
  pub fails : Holds rows check → ⊥
