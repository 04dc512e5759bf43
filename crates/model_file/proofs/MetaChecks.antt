-- The checks of an entry of the metadata.
use Rattle.std.proofs.Common.{◌≡◌, ◌≢◌, ℕ, List, [], ◌∷◌, ◌++◌, Bool, true, false, ◌||◌, refl, sym, ap, ◌∙◌, subst, IsTrue, Some, None}
use Rattle.std.specs.Prelude.{codes, if◌then◌else◌}
use Rattle.std.proofs.lemmas.Bool.{both_ways}
use Rattle.std.specs.Ordering.{is_eq}
use Rattle.std.proofs.lemmas.Cmp.{tied_itself}
use Rattle.key_names.specs.Key.{is_key, is_prefix}
use Rattle.key_names.specs.Order.{bytes_total}
use Rattle.settings_maps.specs.TxName.{is_meta_name}
use Rattle.settings_tree.specs.Content.{settings_key}
use Rattle.json_trees.specs.declared.scalar.Scalar.{Scalar}
use Rattle.model_file.specs.Rows.{RowTexts}
use Rattle.model_file.specs.Checks.{Check, test, key_checks, meta_checks, meta_key, all_but_last, last_name}
use Rattle.model_file.specs.Entries.{Path, is_fit, has_table}
use Rattle.model_file.specs.Refused.{Passes, Refuses, IsAt}
use Rattle.model_file.specs.declared.found.Found.{Found}
use Rattle.model_file.specs.declared.found.Found.TheVariants as found
use Rattle.model_file.specs.declared.model_error.ModelKind.TheVariants.{BadMetadata, BadKey, BadValue}
use Rattle.toml_values.specs.declared.located_fault.LocatedFault.{LocatedFault}
use Rattle.toml_values.specs.declared.located_fault.LocatedFault.TheVariants.{Memory}
use Rattle.model_file.specs.declared.model_error.ModelKind.{ModelKind}
use Rattle.model_file.proofs.Checking.{passes_both, refuses_before, refuses_after, refuses_first, refuses_unless}

-- ---- the last name of a path

pub all_before : (path before : Path) (name : List ℕ) → path ≡ before ++ name ∷ [] → before ≡ all_but_last path
all_before path before name is = sym (ap all_but_last is ∙ by before)
  where
    by : (before : Path) → all_but_last (before ++ name ∷ []) ≡ before
    by [] = refl
    by (x ∷ []) = refl
    by (x ∷ y ∷ before) = ap (λ (l : Path). x ∷ l) (by (y ∷ before))

pub last_of : (path before : Path) (name : List ℕ) → path ≡ before ++ name ∷ [] → name ≡ last_name path
last_of path before name is = sym (ap last_name is ∙ by before)
  where
    by : (before : Path) → last_name (before ++ name ∷ []) ≡ name
    by [] = refl
    by (x ∷ []) = refl
    by (x ∷ y ∷ before) = by (y ∷ before)

-- ---- the key

-- What is some where a test holds.
pub some_if : {X : Type 0} (b : Bool) (x y : X) → Some x ≡ (if b then Some y else None) → (b ≡ true) × (x ≡ y)
some_if true x y is = (refl, cc is)
some_if false x y is = absurd (cc is)

pub none_if : {X : Type 0} (b : Bool) (y : X) → None ≡ (if b then Some y else None) → b ≡ false
none_if true y is = absurd (cc is)
none_if false y is = refl

-- Names that begin with `settings`.
pub begins : (rest : Path) → IsTrue (is_prefix settings_key (codes "settings" ∷ rest))
begins rest = ap is_eq (tied_itself bytes_total (codes "settings"))

module _ (rows : RowTexts) (entry : Path × Found) where
  -- It begins with another name.
  pub other_refuses : (e : LocatedFault ModelKind) → is_prefix settings_key (meta_key entry) ≡ false → IsAt BadMetadata (codes "metadata" ∷ entry.0) e
      → Refuses rows (key_checks entry) e
  other_refuses e other at = refuses_first rows (test (is_prefix settings_key (meta_key entry)) BadMetadata (codes "metadata" ∷ entry.0))
      (test (is_key (meta_key entry)) BadKey (codes "metadata" ∷ entry.0) ∷ []) e (λ is. both_ways (is_prefix settings_key (meta_key entry)) other is) at

  -- It is no key.
  pub key_refuses : (e : LocatedFault ModelKind) (rest : Path) → meta_key entry ≡ codes "settings" ∷ rest → is_key (codes "settings" ∷ rest) ≡ false
      → IsAt BadKey (codes "metadata" ∷ entry.0) e → Refuses rows (key_checks entry) e
  key_refuses e rest is no_key at =
      let none : is_key (meta_key entry) ≡ false = ap is_key is ∙ no_key in
      refuses_after rows (test (is_prefix settings_key (meta_key entry)) BadMetadata (codes "metadata" ∷ entry.0) ∷ [])
      (test (is_key (meta_key entry)) BadKey (codes "metadata" ∷ entry.0) ∷ []) e
      (subst (λ (k : Path). IsTrue (is_prefix settings_key k)) (sym is) (begins rest), tt)
      (refuses_first rows (test (is_key (meta_key entry)) BadKey (codes "metadata" ∷ entry.0)) [] e (λ is. both_ways (is_key (meta_key entry)) none is) at)

  -- ---- what is there

  -- What follows the checks of the key.
  abbrev value_tests : List Check
  value_tests = test (is_fit entry.1) BadValue (codes "metadata" ∷ entry.0) ∷ test (has_table entry.1 || is_meta_name (last_name entry.0)) BadMetadata
      (codes "metadata" ∷ entry.0) ∷ []

  -- A refusal of the key.
  pub by_key : (e : LocatedFault ModelKind) → Refuses rows (key_checks entry) e → Refuses rows (meta_checks entry) e
  by_key e refused = refuses_before rows (key_checks entry) value_tests e refused

  -- A table passes.
  pub table_passes : entry.1 ≡ found.Table → Passes rows (key_checks entry) → Passes rows (meta_checks entry)
  table_passes is key = passes_both rows (key_checks entry) value_tests key
      (ap is_fit is, (ap (λ (f : Found). has_table f || is_meta_name (last_name entry.0)) is, tt))

  -- So does a scalar under a metadata name.
  pub value_passes : (value : Scalar) → entry.1 ≡ found.Value value → Passes rows (key_checks entry) → IsTrue (is_meta_name (last_name entry.0))
      → Passes rows (meta_checks entry)
  value_passes value is key named = passes_both rows (key_checks entry) value_tests key
      (ap is_fit is, (ap (λ (f : Found). has_table f || is_meta_name (last_name entry.0)) is ∙ named, tt))

  -- A scalar under another name is refused.
  pub name_refuses : (value : Scalar) (e : LocatedFault ModelKind) → entry.1 ≡ found.Value value → Passes rows (key_checks entry)
      → (e ≢ Memory → is_meta_name (last_name entry.0) ≡ false) → IsAt BadMetadata (codes "metadata" ∷ entry.0) e → Refuses rows (meta_checks entry) e
  name_refuses value e is key other at =
      let no_table : (has_table entry.1 || is_meta_name (last_name entry.0)) ≡ is_meta_name (last_name entry.0) =
      ap (λ (f : Found). has_table f || is_meta_name (last_name entry.0)) is in
      refuses_after rows (key_checks entry) value_tests e key
      (refuses_after rows (test (is_fit entry.1) BadValue (codes "metadata" ∷ entry.0) ∷ [])
      (test (has_table entry.1 || is_meta_name (last_name entry.0)) BadMetadata (codes "metadata" ∷ entry.0) ∷ []) e (ap is_fit is, tt)
      (refuses_unless rows (test (has_table entry.1 || is_meta_name (last_name entry.0)) BadMetadata (codes "metadata" ∷ entry.0)) [] e
      (λ some holds. both_ways (is_meta_name (last_name entry.0)) (other some) (sym no_table ∙ holds)) at))

  -- Another value is refused.
  pub other_value_refuses : (e : LocatedFault ModelKind) → entry.1 ≡ found.Other → Passes rows (key_checks entry) → IsAt BadValue (codes "metadata" ∷ entry.0) e
      → Refuses rows (meta_checks entry) e
  other_value_refuses e is key at =
      refuses_after rows (key_checks entry) value_tests e key
      (refuses_first rows (test (is_fit entry.1) BadValue (codes "metadata" ∷ entry.0))
      (test (has_table entry.1 || is_meta_name (last_name entry.0)) BadMetadata (codes "metadata" ∷ entry.0) ∷ []) e
      (λ fit. both_ways (is_fit entry.1) (ap is_fit is) fit) at)
