-- What holds of each model that a text spells: its values are typed, and its metadata is that of settings.
use Rattle.std.proofs.Common.{◌≡◌, ℕ, List, [], ◌∷◌, ◌++◌, Bool, true, false, cond, Some, None, Option, IsSome, refl, sym, subst}
use Rattle.std.specs.Prelude.{codes}
use Rattle.std.specs.List.{flat_map, AllByRecursion}
use Rattle.std.specs.FinMap.{FinMap, empty, get, insert, get-empty, get-insert}
use Rattle.std.specs.Ordering.{eq_by_cmp}
use Rattle.key_names.specs.Key.{is_prefix}
use Rattle.key_names.specs.Order.{bytes_cmp, key_cmp, key_total}
use Rattle.json_trees.specs.declared.scalar.Scalar.{Scalar}
use Rattle.settings_maps.specs.Maps.{inner, with_value}
use Rattle.settings_tree.specs.Content.{Contents, settings_key}
use Rattle.typed_settings.specs.Row.{IsTableOf, IsTyped}
use Rattle.typed_settings.specs.declared.row.Row.{Row}
use Rattle.model_file.specs.Rows.{RowTexts, row_texts}
use Rattle.model_file.specs.Checks.{Check, Holds, IsTaken, name_checks, os_checks, types_checks, section_entries, value_checks, section_checks}
use Rattle.model_file.specs.Checks.{all_but_last, last_name, meta_key, meta_checks, metadata_checks, content_checks}
use Rattle.model_file.specs.Contents.{with_found, scalars, with_values, with_metadata, with_section}
use Rattle.model_file.specs.Entries.{Path, scalar_found}
use Rattle.model_file.specs.Model.{Spells, AreTyped}
use Rattle.model_file.specs.declared.found.Found.{Found}
use Rattle.model_file.specs.declared.found.Found.TheVariants as found
use Rattle.model_file.specs.declared.model.Model.{Model}
use Rattle.model_file.proofs.KnownKeys.{same_taken, none_typed, typed_put}
use Rattle.settings_machine.proofs.Elements.{key_tied}

-- What holds of all of two lists holds of all of each.
all_left : {X : Type 0} (P : X → Type 0) (xs ys : List X) → AllByRecursion P (xs ++ ys) → AllByRecursion P xs
all_left P [] ys all = tt
all_left P (x ∷ xs) ys all = (all.0, all_left P xs ys all.1)

all_right : {X : Type 0} (P : X → Type 0) (xs ys : List X) → AllByRecursion P (xs ++ ys) → AllByRecursion P ys
all_right P [] ys all = all
all_right P (x ∷ xs) ys all = all_right P xs ys all.1

module _ (rows : RowTexts) where
  abbrev Pass : List Check → Type 0
  Pass all = AllByRecursion (Holds rows) all

  -- ---- values

  -- What a table of the rows takes, each takes.
  taken_typed : (table : List Row) → IsTableOf rows table → (key : Path) (o : Option Scalar) → IsTaken rows key o → (value : Scalar) → o ≡ Some value
      → IsTyped table key value
  taken_typed table of key None taken value is = absurd (cc is)
  taken_typed table of key (Some w) taken value is =
      let same : w ≡ value = cc is in
      subst (IsTyped table key) same (same_taken rows taken.0 table key w taken.1 of taken.2)

  section_typed : (table : List Row) → IsTableOf rows table → (name : List ℕ) (entries : List (Path × Found)) (values : FinMap key_cmp Scalar)
      → AreTyped table values
      → Pass (flat_map (value_checks name) entries) → AreTyped table (with_values name (scalars entries) values)
  section_typed table of name [] values typed pass = typed
  section_typed table of name (entry ∷ entries) values typed pass =
      by (λ more typed. section_typed table of name entries more typed
      (all_right (Holds rows) (value_checks name entry) (flat_map (value_checks name) entries) pass))
      (scalar_found entry.1) refl
    where
      here : Pass (value_checks name entry)
      here = all_left (Holds rows) (value_checks name entry) (flat_map (value_checks name) entries) pass

      by : ((more : FinMap key_cmp Scalar) → AreTyped table more → AreTyped table (with_values name (scalars entries) more)) → (o : Option Scalar)
          → scalar_found entry.1 ≡ o
          → AreTyped table (with_values name (with_found entry.0 o ++ scalars entries) values)
      by rest None is = rest values typed
      by rest (Some value) is = rest (insert values (name ∷ entry.0) value)
          (typed_put table values (name ∷ entry.0) value typed (taken_typed table of (name ∷ entry.0) (scalar_found entry.1) here.1.1.0 value is))

  -- ---- metadata

  -- Each key of the metadata begins with `settings`.
  abbrev pub AreOfSettings : FinMap key_cmp (FinMap bytes_cmp Scalar) → Type 0
  AreOfSettings metadata = (key : Path) → IsSome (get metadata key) → is_prefix settings_key key ≡ true

  none_there : AreOfSettings empty
  none_there key some = absurd (nothing (subst IsSome (get-empty key_cmp key) some)) where
    nothing : IsSome {T = FinMap bytes_cmp Scalar} None → ⊥
    nothing there = cc there

  one_more : (metadata : FinMap key_cmp (FinMap bytes_cmp Scalar)) (key : Path) (name : List ℕ) (value : Scalar) → AreOfSettings metadata
      → is_prefix settings_key key ≡ true
      → AreOfSettings (with_value metadata key name value)
  one_more metadata key name value all here q some = by (eq_by_cmp key_cmp q key) refl (subst IsSome (get-insert key_total metadata key _ q) some) where
    by : (b : Bool) → eq_by_cmp key_cmp q key ≡ b → IsSome (cond b (Some (insert (inner metadata key) name value)) (get metadata q))
        → is_prefix settings_key q ≡ true
    by true e there = subst (λ (k : Path). is_prefix settings_key k ≡ true) (sym (key_tied q key e)) here
    by false e there = all q there

  metadata_kept : (entries : List (Path × Found)) (metadata : FinMap key_cmp (FinMap bytes_cmp Scalar)) → AreOfSettings metadata
      → Pass (flat_map meta_checks entries)
      → AreOfSettings (with_metadata (scalars entries) metadata)
  metadata_kept [] metadata all pass = all
  metadata_kept (entry ∷ entries) metadata all pass =
      by (λ more all. metadata_kept entries more all (all_right (Holds rows) (meta_checks entry) (flat_map meta_checks entries) pass)) entry.1 refl
    where
      here : Pass (meta_checks entry)
      here = all_left (Holds rows) (meta_checks entry) (flat_map meta_checks entries) pass

      by : ((more : FinMap key_cmp (FinMap bytes_cmp Scalar)) → AreOfSettings more → AreOfSettings (with_metadata (scalars entries) more)) → (f : Found)
          → entry.1 ≡ f
          → AreOfSettings (with_metadata (with_found entry.0 (scalar_found f) ++ scalars entries) metadata)
      by rest found.Table is = rest metadata all
      by rest found.Other is = rest metadata all
      by rest (found.Value value) is = rest (with_value metadata (all_but_last entry.0) (last_name entry.0) value)
          (one_more metadata (all_but_last entry.0) (last_name entry.0) value all
          (subst (λ (f : Found). is_prefix settings_key (meta_key (entry.0, f)) ≡ true) is here.0))

-- ---- models

module _ (text : List ℕ) (model : Model) (spells : Spells text model) where
  abbrev rows_are : RowTexts
  rows_are = row_texts spells.document

  content : Pass rows_are (content_checks spells.document)
  content = all_right (Holds rows_are) (name_checks spells.document ++ os_checks spells.document ++ types_checks spells.document)
      (content_checks spells.document) spells.hold

  abbrev section_of : List ℕ → List Check
  section_of name = section_checks name spells.document

  sections : Pass rows_are (section_of (codes "settings") ++ section_of (codes "services") ++ section_of (codes "configuration-files"))
  sections = all_left (Holds rows_are) (section_of (codes "settings") ++ section_of (codes "services") ++ section_of (codes "configuration-files"))
      (metadata_checks spells.document) content

  first_two : Pass rows_are (section_of (codes "settings") ++ section_of (codes "services"))
  first_two = all_left (Holds rows_are) (section_of (codes "settings") ++ section_of (codes "services")) (section_of (codes "configuration-files")) sections

  with_one : (name : List ℕ) (values : FinMap key_cmp Scalar) → AreTyped model.types values → Pass rows_are (section_of name)
      → AreTyped model.types (with_section name spells.document values)
  with_one name values typed pass = section_typed rows_are model.types spells.model_is.types name (section_entries name spells.document) values typed pass.1

  -- The types of a model take each of its values.
  pub values_typed : AreTyped model.types model.content.values
  values_typed =
      let settings = with_one (codes "settings") empty (none_typed model.types)
      (all_left (Holds rows_are) (section_of (codes "settings")) (section_of (codes "services")) first_two) in
      let services = with_one (codes "services") (with_section (codes "settings") spells.document empty) settings
      (all_right (Holds rows_are) (section_of (codes "settings")) (section_of (codes "services")) first_two) in
      let files = with_one (codes "configuration-files") (with_section (codes "services") spells.document
      (with_section (codes "settings") spells.document empty)) services
      (all_right (Holds rows_are) (section_of (codes "settings") ++ section_of (codes "services")) (section_of (codes "configuration-files")) sections) in
      subst (λ (c : Contents). AreTyped model.types c.values) (sym spells.model_is.content) files

  -- Each key of its metadata begins with `settings`.
  pub metadata_of_settings : (key : Path) → IsSome (get model.content.metadata key) → is_prefix settings_key key ≡ true
  metadata_of_settings =
      let pass = all_right (Holds rows_are) (section_of (codes "settings") ++ section_of (codes "services") ++ section_of (codes "configuration-files"))
      (metadata_checks spells.document) content in
      subst (λ (c : Contents). AreOfSettings rows_are c.metadata) (sym spells.model_is.content)
      (metadata_kept rows_are (section_entries (codes "metadata") spells.document) empty (none_there rows_are) pass.1)
