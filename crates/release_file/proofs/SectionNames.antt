-- Names of sections, and what is under them.
use Rattle.std.proofs.Common.{◌≡◌, ◌&&◌, not, ℕ, List, [], ◌∷◌, map, subst, Bool, true, false, Option, Some, None, Bor, if◌then◌else◌, refl, sym, ◌∙◌, ap}
use Rattle.std.specs.Prelude.{is_some, unwrap_or}
use Rattle.std.specs.List.{list_any}
use Rattle.std.specs.Option.{option_copied}
use Rattle.std.specs.Ordering.{eq_by_cmp}
use Rattle.std.proofs.lemmas.Bool.{false≢true, both_ways}
use Rattle.key_names.specs.Order.{bytes_cmp}
use Rattle.toml.specs.Data.{Data, as_table, Members, no_members, member, get_member}
use Rattle.release_file.specs.Checks.{Check, test, sections, name_checks, is_section, section_check, section_members}
use Rattle.release_file.specs.Fields.{has_only, read_by}
use Rattle.release_file.specs.Refused.{Passes, Refuses}
use Rattle.toml_values.specs.Refused.{IsAt}
use Rattle.toml_values.specs.declared.located_fault.LocatedFault.{LocatedFault}
use Rattle.release_file.specs.declared.release_error.ReleaseKind.{ReleaseKind}
use Rattle.release_file.specs.declared.release_error.ReleaseKind.TheVariants.{UnknownSection}
use Rattle.toml_values.specs.Document.{named, other_name}
use Rattle.release_file.proofs.Checking.{refuses_first, refuses_after}

-- The check of a top-level name.
abbrev pub name_check : List ℕ → Check
name_check name = test (list_any (eq_by_cmp bytes_cmp name) sections) UnknownSection name

-- Each name is that of a section.
pub names_hold : (ms : Members) → other_name sections ms ≡ None → Passes (name_checks ms)
names_hold no_members none = tt
names_hold (member name d ms) none = by (list_any (eq_by_cmp bytes_cmp name) sections) refl none (names_hold ms)
  where
    by : (b : Bool) → list_any (eq_by_cmp bytes_cmp name) sections ≡ b → (if b then other_name sections ms else Some name) ≡ None
        → (other_name sections ms ≡ None → Passes (name_checks ms)) → Passes (name_checks (member name d ms))
    by true known none others = (known, others none)
    by false other none others = absurd (cc none)

-- And one is another: the first such is refused.
pub names_refused : (ms : Members) (name : List ℕ) (e : LocatedFault ReleaseKind) → other_name sections ms ≡ Some name → IsAt UnknownSection name e
    → Refuses (name_checks ms) e
names_refused no_members name e is at = absurd (cc is)
names_refused (member own d ms) name e is at = by (list_any (eq_by_cmp bytes_cmp own) sections) refl is (λ rest. names_refused ms name e rest at)
  where
    by : (b : Bool) → list_any (eq_by_cmp bytes_cmp own) sections ≡ b → (if b then other_name sections ms else Some own) ≡ Some name
        → (other_name sections ms ≡ Some name → Refuses (name_checks ms) e) → Refuses (name_checks (member own d ms)) e
    by true known is others = refuses_after (name_check own ∷ []) (name_checks ms) e (known, tt) (others is)
    by false other is others =
        let same : own ≡ name = cc is in
        refuses_first (name_check own) (name_checks ms) e (both_ways _ other) (subst (λ (n : List ℕ). IsAt UnknownSection n e) (sym same) at)

-- A table has another name exactly where it has not only these.
others : (names : List (List ℕ)) (ms : Members) → is_some (other_name names ms) ≡ not (has_only names ms)
others names no_members = refl
others names (member name d ms) = by (list_any (eq_by_cmp bytes_cmp name) names) (others names ms)
  where
    by : (b : Bool) → is_some (other_name names ms) ≡ not (has_only names ms)
        → is_some (if b then other_name names ms else Some name) ≡ not (b && has_only names ms)
    by true rest = rest
    by false rest = refl

-- So it has only these where no other is found.
pub only_these : (names : List (List ℕ)) (ms : Members) (found : Option (Bor (List ℕ))) (none : Bool) → option_copied found ≡ other_name names ms
    → is_some found ≡ not none → none ≡ has_only names ms
only_these names ms found none is told = by none (has_only names ms) (sym told ∙ copied found ∙ ap is_some is ∙ others names ms)
  where
    copied : (o : Option (Bor (List ℕ))) → is_some o ≡ is_some (option_copied o)
    copied None = refl
    copied (Some x) = refl

    by : (a b : Bool) → not a ≡ not b → a ≡ b
    by true true same = refl
    by true false same = sym same
    by false true same = sym same
    by false false same = refl

-- ---- what is under a name

module _ (kind : ReleaseKind) (name : List ℕ) (document : Members) where
  -- A section that is missing.
  pub missing_passes : get_member name document ≡ None → Passes (section_check kind name document ∷ [])
  missing_passes none = (ap is_section none, tt)

  pub missing_members : get_member name document ≡ None → section_members name document ≡ no_members
  missing_members none = ap (λ (o : Option Data). unwrap_or (read_by as_table o) no_members) none

  -- One that is a table.
  pub table_passes : (d : Data) (ms : Members) → get_member name document ≡ Some d → as_table d ≡ Some ms → Passes (section_check kind name document ∷ [])
  table_passes d ms there found = (ap is_section there ∙ ap is_some found, tt)

  pub table_members : (d : Data) (ms : Members) → get_member name document ≡ Some d → as_table d ≡ Some ms → section_members name document ≡ ms
  table_members d ms there found = ap (λ (o : Option Data). unwrap_or (read_by as_table o) no_members) there
      ∙ ap (λ (o : Option Members). unwrap_or o no_members) found

  -- One that is another value.
  pub other_refuses : (d : Data) (e : LocatedFault ReleaseKind) → get_member name document ≡ Some d → as_table d ≡ None → IsAt kind name e
      → Refuses (section_check kind name document ∷ []) e
  other_refuses d e there none at = refuses_first (section_check kind name document) [] e
      (λ holds. false≢true (sym (ap is_section there ∙ ap is_some none) ∙ holds)) at

-- ---- a section with its entries

module _ (check : List ℕ × Data → Check) (kind : ReleaseKind) (name : List ℕ) (document ms : Members) (is : section_members name document ≡ ms)
    (table : Passes (section_check kind name document ∷ [])) where
  -- The section is a table, and all of its entries hold.
  pub entries_pass : Passes (map check (named ms)) → Passes (section_check kind name document ∷ map check (named (section_members name document)))
  entries_pass all = (table.0, subst (λ (m : Members). Passes (map check (named m))) (sym is) all)

  -- The section is a table, and the first of its entries that fails is refused.
  pub entries_refuse : (e : LocatedFault ReleaseKind) → Refuses (map check (named ms)) e
      → Refuses (section_check kind name document ∷ map check (named (section_members name document))) e
  entries_refuse e refused = refuses_after (section_check kind name document ∷ []) _ e table
      (subst (λ (m : Members). Refuses (map check (named m)) e) (sym is) refused)
