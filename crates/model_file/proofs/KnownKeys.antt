-- Keys that the types know, and values that they take.
use Rattle.std.proofs.Common.{◌≡◌, List, [], ◌++◌, Option, Some, None, Bool, true, false, cond, refl, sym, ap, ◌∙◌, subst, append-nil, IsSome, IsTrue}
use Rattle.std.specs.Prelude.{unwrap_or}
use Rattle.std.specs.FinMap.{FinMap, empty, get, insert, get-empty, get-insert}
use Rattle.std.specs.Ordering.{eq_by_cmp}
use Rattle.key_names.specs.Key.{is_prefix}
use Rattle.key_names.specs.Order.{key_cmp, key_total, key_cmp-IsAntisymmetric}
use Rattle.json_trees.specs.declared.scalar.Scalar.{Scalar}
use Rattle.settings_maps.proofs.NestedMaps.{tied_by}
use Rattle.settings_tree.specs.Rule.{Fits}
use Rattle.typed_settings.specs.Row.{built_in, IsTableOf, IsTyped, IsKnown, IsPrefixFree}
use Rattle.typed_settings.specs.declared.row.Row.{Row}
use Rattle.typed_settings.proofs.Apart.{whole_apart, permuted_apart, prefix_free}
use Rattle.typed_settings.proofs.OneOrder.{same_rows}
use Rattle.typed_settings.proofs.OneTable.{all_of_settings}
use Rattle.model_file.specs.Rows.{RowTexts}
use Rattle.model_file.specs.Entries.{Path}
use Rattle.model_file.specs.Model.{AreKnown, AreTyped}
use Rattle.key_names.proofs.Prefixes.{behind}

-- ---- tables of the same rows

-- In a table no known key begins another.
pub table_free : (rows : RowTexts) (table : List Row) → IsTableOf rows table → IsPrefixFree table
table_free rows table is = prefix_free table (permuted_apart (built_in ++ is.given) table is.rows
    (whole_apart is.given (all_of_settings rows is.given is.spelled) is.apart))

-- Two tables of the same rows take the same values.
pub same_taken : (rows : RowTexts) (one other : List Row) (key : Path) (value : Scalar) → IsTableOf rows one → IsTableOf rows other → IsTyped one key value
    → IsTyped other key value
same_taken rows one other key value is too typed = record {
  row = typed.row;
  has = record { among = same_rows rows one other typed.row is too typed.has.among; matches = typed.has.matches };
  taken = typed.taken;
}

-- ---- maps whose values are typed

-- A key at which a value is typed is known.
pub typed_known : (table : List Row) (key : Path) (value : Scalar) → IsTyped table key value → IsKnown table key
typed_known table key value typed = (typed.row, typed.has)

-- Where each value is typed, each key is known.
pub all_known : (table : List Row) (values : FinMap key_cmp Scalar) → AreTyped table values → AreKnown table values
all_known table values typed key has = by (get values key) refl has
  where
    by : (o : Option Scalar) → get values key ≡ o → IsSome o → IsKnown table key
    by (Some value) is has = typed_known table key value (typed key value is)
    by None is has = absurd (cc)

-- The empty map has no value that isn't.
pub none_typed : (table : List Row) → AreTyped table empty
none_typed table key value is = absurd (nothing_there (get {X = Scalar} empty key) (get-empty key_cmp key) is)
  where
    nothing_there : (o : Option Scalar) → o ≡ None → o ≡ Some value → ⊥
    nothing_there o none some = cc

-- Nor with a typed value at its key.
pub typed_put : (table : List Row) (values : FinMap key_cmp Scalar) (key : Path) (value : Scalar) → AreTyped table values → IsTyped table key value
    → AreTyped table (insert values key value)
typed_put table values key value typed here q v is = by (eq_by_cmp key_cmp q key) refl (sym (get-insert key_total values key value q) ∙ is) where
  by : (b : Bool) → eq_by_cmp key_cmp q key ≡ b → cond b (Some value) (get values q) ≡ Some v → IsTyped table q v
  by true e same = subst (λ (k : Path). IsTyped table k v) (sym (key_cmp-IsAntisymmetric q key (tied_by (key_cmp q key) e)))
      (subst (IsTyped table key) (ap (λ o. unwrap_or o value) same) here)
  by false e same = typed q v same

-- ---- maps whose keys are known

-- Known keys of which one begins the other are one.
pub one_known : (table : List Row) (p k : Path) → IsPrefixFree table → IsKnown table p → IsKnown table k → IsTrue (is_prefix p k) → p ≡ k
one_known table p k free first second begins =
    let parts = behind p k begins in
    let nothing : parts.0 ≡ [] = free.free p parts.0 first (subst (IsKnown table) parts.1 second) in
    sym (parts.1 ∙ ap (λ (l : Path). p ++ l) nothing ∙ append-nil p)

-- A known key fits a map whose keys are known.
pub known_fits : (table : List Row) (values : FinMap key_cmp Scalar) (key : Path) → IsPrefixFree table → AreKnown table values → IsKnown table key
    → Fits values key
known_fits table values key free known here = record {
  longer = record { alone = λ q has begins. one_known table key q free here (known q has) begins };
  shorter = record { alone = λ q has begins. one_known table q key free (known q has) here begins };
}
