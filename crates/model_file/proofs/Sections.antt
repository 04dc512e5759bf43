-- What is under a section's name.
use Rattle.std.proofs.Common.{◌≡◌, ℕ, List, [], ◌∷◌, Bool, true, Option, Some, None}
use Rattle.std.proofs.Common.{option_map, unwrap_or, Bor, String, Global, string_bytes, nat_cmp, sym, ◌∙◌, ap}
use Rattle.std.specs.BTreeMap.{is_at}
use Rattle.std.specs.Cmp.Lexicographic.{slice_cmp}
use Rattle.std.specs.Map.{lookup}
use Rattle.toml.specs.Data.{Data, string, integer, float, boolean, datetime, array, table, Members, no_members, as_table}
use Rattle.toml.specs.View.{view, members_view}
use Rattle.toml.specs.declared.value.Value.{Value}
use Rattle.toml.proofs.Views.{table_get}
use Rattle.model_file.specs.Checks.{table_check}
use Rattle.model_file.specs.Document.{section, section_members, members_of, is_table}
use Rattle.model_file.specs.Refused.{Passes, Refuses, IsAt}
use Rattle.model_file.specs.declared.model_error.ModelKind.TheVariants.{NotTable}
use Rattle.toml_values.specs.declared.located_fault.LocatedFault.{LocatedFault}
use Rattle.model_file.specs.declared.model_error.ModelKind.{ModelKind}
use Rattle.model_file.proofs.Checking.{refuses_first}

-- The name of an entry of the map is at the bytes.
abbrev pub is_named : List ℕ → String Global → Bool
is_named name = is_at (λ x. slice_cmp nat_cmp name (string_bytes x))

-- The value that the map finds is the section.
pub section_is : (name : List ℕ) (found : Option (Bor Value)) (entries : List (String Global × Value))
    → option_map (λ x. x.now) found ≡ lookup (is_named name) entries
    → section name (members_view entries) ≡ unwrap_or (option_map (λ x. view x.now) found) (table no_members)
section_is name found entries get = ap (λ (o : Option Data). unwrap_or o (table no_members)) (sym (table_get found name entries get))

table_from : (d : Data) (ms : Members) → Some ms ≡ as_table d → d ≡ table ms
table_from (string s) ms is = absurd (cc is)
table_from (integer z) ms is = absurd (cc is)
table_from (float x) ms is = absurd (cc is)
table_from (boolean b) ms is = absurd (cc is)
table_from (datetime t) ms is = absurd (cc is)
table_from (array ds) ms is = absurd (cc is)
table_from (table own) ms is = cc is

none_from : (d : Data) → None ≡ as_table d → is_table d ≡ true → ⊥
none_from (string s) none is = cc is
none_from (integer z) none is = cc is
none_from (float x) none is = cc is
none_from (boolean b) none is = cc is
none_from (datetime t) none is = cc is
none_from (array ds) none is = cc is
none_from (table own) none is = cc none

-- A section that is a table.
pub passes_table : (rows : List (List ℕ × List ℕ)) (name : List ℕ) (document : Members) (d : Data) (ms : Members) → section name document ≡ d
    → Some ms ≡ as_table d → Passes rows (table_check name document ∷ [])
passes_table rows name document d ms is found = (ap is_table (is ∙ table_from d ms found), tt)

pub members_table : (name : List ℕ) (document : Members) (d : Data) (ms : Members) → section name document ≡ d → Some ms ≡ as_table d
    → section_members name document ≡ ms
members_table name document d ms is found = ap members_of (is ∙ table_from d ms found)

-- A section that is another value.
pub refuses_table : (rows : List (List ℕ × List ℕ)) (name : List ℕ) (document : Members) (d : Data) (e : LocatedFault ModelKind) → section name document ≡ d
    → None ≡ as_table d → IsAt NotTable (name ∷ []) e → Refuses rows (table_check name document ∷ []) e
refuses_table rows name document d e is none at = refuses_first rows (table_check name document) [] e (λ holds. none_from d none (ap is_table (sym is) ∙ holds))
    at
