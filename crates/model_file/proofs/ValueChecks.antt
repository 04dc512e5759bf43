-- The checks of an entry of a section of values.
use Rattle.std.proofs.Common.{◌≡◌, ◌≢◌, ℕ, List, [], ◌∷◌, true, false, sym, ap, subst, Some}
use Rattle.std.proofs.lemmas.Bool.{both_ways}
use Rattle.key_names.specs.Key.{is_key}
use Rattle.json_trees.specs.declared.scalar.Scalar.{Scalar}
use Rattle.typed_settings.specs.Row.{IsTableOf, IsTyped}
use Rattle.typed_settings.specs.declared.row.Row.{Row}
use Rattle.model_file.specs.Rows.{RowTexts}
use Rattle.model_file.specs.Checks.{test, typed, value_checks, IsTaken}
use Rattle.model_file.specs.Entries.{Path, is_fit, scalar_found}
use Rattle.model_file.specs.Refused.{Passes, Refuses, IsAt}
use Rattle.model_file.specs.declared.found.Found.{Found}
use Rattle.model_file.specs.declared.found.Found.TheVariants as found
use Rattle.model_file.specs.declared.model_error.ModelKind.TheVariants.{BadKey, BadValue, IllTyped}
use Rattle.toml_values.specs.declared.located_fault.LocatedFault.{LocatedFault}
use Rattle.toml_values.specs.declared.located_fault.LocatedFault.TheVariants.{Memory}
use Rattle.model_file.specs.declared.model_error.ModelKind.{ModelKind}
use Rattle.model_file.proofs.Checking.{refuses_after, refuses_first, refuses_unless}
use Rattle.model_file.proofs.KnownKeys.{same_taken}

module _ (rows : RowTexts) (name : List ℕ) (entry : Path × Found) where
  -- Names that are no key are refused.
  pub key_refuses : (e : LocatedFault ModelKind) → is_key (name ∷ entry.0) ≡ false → IsAt BadKey (name ∷ entry.0) e → Refuses rows (value_checks name entry) e
  key_refuses e no_key at = refuses_first rows (test (is_key (name ∷ entry.0)) BadKey (name ∷ entry.0))
      (test (is_fit entry.1) BadValue (name ∷ entry.0) ∷ typed (name ∷ entry.0) entry.1 ∷ []) e (λ is. both_ways (is_key (name ∷ entry.0)) no_key is) at

  -- A value that is no scalar is refused.
  pub other_refuses : (e : LocatedFault ModelKind) → is_key (name ∷ entry.0) ≡ true → entry.1 ≡ found.Other → IsAt BadValue (name ∷ entry.0) e
      → Refuses rows (value_checks name entry) e
  other_refuses e key is at =
      refuses_after rows (test (is_key (name ∷ entry.0)) BadKey (name ∷ entry.0) ∷ [])
      (test (is_fit entry.1) BadValue (name ∷ entry.0) ∷ typed (name ∷ entry.0) entry.1 ∷ []) e (key, tt)
      (refuses_first rows (test (is_fit entry.1) BadValue (name ∷ entry.0)) (typed (name ∷ entry.0) entry.1 ∷ []) e
      (λ fit. both_ways (is_fit entry.1) (ap is_fit is) fit) at)

  module _ (table : List Row) (of_rows : IsTableOf rows table) (value : Scalar) (key : is_key (name ∷ entry.0) ≡ true) (is : entry.1 ≡ found.Value value) where
    -- A scalar that the types take passes.
    pub value_passes : (k : Path) → k ≡ name ∷ entry.0 → IsTyped table k value → Passes rows (value_checks name entry)
    value_passes k same taken = (
      key,
      (
        ap is_fit is,
        (
          subst (λ (f : Found). IsTaken rows (name ∷ entry.0) (scalar_found f)) (sym is)
              (table, of_rows, subst (λ (q : Path). IsTyped table q value) same taken),
          tt,
        ),
      ),
    )

    -- A scalar that the types don't take is refused.
    pub value_refuses : (e : LocatedFault ModelKind) (k : Path) → k ≡ name ∷ entry.0 → (e ≢ Memory → IsTyped table k value → ⊥)
        → IsAt IllTyped (name ∷ entry.0) e
        → Refuses rows (value_checks name entry) e
    value_refuses e k same fails at =
        refuses_after rows (test (is_key (name ∷ entry.0)) BadKey (name ∷ entry.0) ∷ test (is_fit entry.1) BadValue (name ∷ entry.0) ∷ [])
        (typed (name ∷ entry.0) entry.1 ∷ []) e (key, (ap is_fit is, tt))
        (refuses_unless rows (typed (name ∷ entry.0) entry.1) [] e (λ some holds. not_taken some
        (subst (λ (f : Found). IsTaken rows (name ∷ entry.0) (scalar_found f)) is holds)) at)
      where
        not_taken : e ≢ Memory → IsTaken rows (name ∷ entry.0) (Some value) → ⊥
        not_taken some taken = fails some (subst (λ (q : Path). IsTyped table q value) (sym same)
            (same_taken rows taken.0 table (name ∷ entry.0) value taken.1 of_rows taken.2))
