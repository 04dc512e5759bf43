-- Names of sections.
use Rattle.std.proofs.Common.{◌≡◌, ℕ, List, [], ◌∷◌, Bool, true, false, Option, Some, None, if◌then◌else◌, refl, sym, subst}
use Rattle.std.specs.List.{list_any}
use Rattle.std.specs.Ordering.{eq_by_cmp}
use Rattle.std.proofs.lemmas.Bool.{both_ways}
use Rattle.key_names.specs.Order.{bytes_cmp}
use Rattle.toml.specs.Data.{Members, no_members, member}
use Rattle.toml_values.specs.Document.{other_name}
use Rattle.model_file.specs.Checks.{Check, test, name_checks}
use Rattle.model_file.specs.Document.{sections}
use Rattle.model_file.specs.Rows.{RowTexts}
use Rattle.model_file.specs.Refused.{Passes, Refuses, IsAt}
use Rattle.model_file.specs.declared.model_error.ModelKind.TheVariants.{UnknownSection}
use Rattle.toml_values.specs.declared.located_fault.LocatedFault.{LocatedFault}
use Rattle.model_file.specs.declared.model_error.ModelKind.{ModelKind}
use Rattle.model_file.proofs.Checking.{refuses_first, refuses_after}

-- The check of a top-level name.
abbrev pub name_check : List ℕ → Check
name_check name = test (list_any (eq_by_cmp bytes_cmp name) sections) UnknownSection (name ∷ [])

-- Each name is that of a section.
pub names_hold : (ms : Members) → other_name sections ms ≡ None → (rows : RowTexts) → Passes rows (name_checks ms)
names_hold no_members none rows = tt
names_hold (member name d ms) none rows = by (list_any (eq_by_cmp bytes_cmp name) sections) refl none (λ rest. names_hold ms rest rows)
  where
    by : (b : Bool) → list_any (eq_by_cmp bytes_cmp name) sections ≡ b → (if b then other_name sections ms else Some name) ≡ None
        → (other_name sections ms ≡ None → Passes rows (name_checks ms)) → Passes rows (name_checks (member name d ms))
    by true known none others = (known, others none)
    by false other none others = absurd (cc none)

-- And one is another: the first such is refused.
pub names_refused : (ms : Members) (name : List ℕ) (e : LocatedFault ModelKind) → other_name sections ms ≡ Some name → IsAt UnknownSection (name ∷ []) e
    → (rows : RowTexts) → Refuses rows (name_checks ms) e
names_refused no_members name e is at rows = absurd (cc is)
names_refused (member own d ms) name e is at rows =
    by (list_any (eq_by_cmp bytes_cmp own) sections) refl is (λ rest. names_refused ms name e rest at rows)
  where
    by : (b : Bool) → list_any (eq_by_cmp bytes_cmp own) sections ≡ b → (if b then other_name sections ms else Some own) ≡ Some name
        → (other_name sections ms ≡ Some name → Refuses rows (name_checks ms) e) → Refuses rows (name_checks (member own d ms)) e
    by true known is others = refuses_after rows (name_check own ∷ []) (name_checks ms) e (known, tt) (others is)
    by false other is others =
        let same : own ≡ name = cc is in
        refuses_first rows (name_check own) (name_checks ms) e (both_ways _ other) (subst (λ (n : List ℕ). IsAt UnknownSection (n ∷ []) e) (sym same) at)
