-- Checks of one entry after another, and of a section after the check that it is a table.
use Rattle.std.proofs.Common.{◌≡◌, ℕ, ◌+◌, ◌<◌, ◌≤◌, List, [], ◌∷◌, ◌++◌, length, get_or, take, drop, append-nil, sym, ap, ◌∙◌, subst}
use Rattle.std.specs.List.{flat_map}
use Rattle.std.proofs.lemmas.List.{take_more, take_all, take-append-drop}
use Rattle.std.proofs.lemmas.List.Concat.{flat_map-append}
use Rattle.toml.specs.Data.{Members}
use Rattle.model_file.specs.Rows.{RowTexts}
use Rattle.model_file.specs.Checks.{Check, table_check, section_entries}
use Rattle.model_file.specs.Document.{section_members}
use Rattle.model_file.specs.Entries.{Path, members_entries}
use Rattle.model_file.specs.Refused.{Passes, Refuses}
use Rattle.model_file.specs.declared.found.Found.{Found}
use Rattle.toml_values.specs.declared.located_fault.LocatedFault.{LocatedFault}
use Rattle.model_file.specs.declared.model_error.ModelKind.{ModelKind}
use Rattle.model_file.proofs.Checking.{passes_both, refuses_before, refuses_after}

-- One element more of a list.
pub grown : {X : Type 0} (xs : List X) (i : ℕ) (x : X) → i < length xs → x ≡ get_or xs i x → take (i + 1) xs ≡ take i xs ++ x ∷ []
grown xs i x within is = take_more xs i x within ∙ ap (λ y. take i xs ++ y ∷ []) (sym is)

module _ {X : Type 0} (f : X → List Check) where
  -- The checks of one entry more.
  flat_more : (xs : List X) (i : ℕ) (x : X) → i < length xs → x ≡ get_or xs i x → flat_map f (take (i + 1) xs) ≡ flat_map f (take i xs) ++ f x
  flat_more xs i x within is = ap (flat_map f) (grown xs i x within is) ∙ flat_map-append f (take i xs) (x ∷ [])
      ∙ ap (λ (l : List Check). flat_map f (take i xs) ++ l) (append-nil (f x))

  -- Those of one entry more hold.
  pub passes_more : (rows : RowTexts) (xs : List X) (i : ℕ) (x : X) → i < length xs → x ≡ get_or xs i x → Passes rows (flat_map f (take i xs))
      → Passes rows (f x) → Passes rows (flat_map f (take (i + 1) xs))
  passes_more rows xs i x within is front here = subst (Passes rows) (sym (flat_more xs i x within is))
      (passes_both rows (flat_map f (take i xs)) (f x) front here)

  -- Those of all entries hold.
  pub passes_all : (rows : RowTexts) (xs : List X) (i : ℕ) → length xs ≤ i → Passes rows (flat_map f (take i xs)) → Passes rows (flat_map f xs)
  passes_all rows xs i done all = subst (λ (l : List X). Passes rows (flat_map f l)) (take_all i xs done) all

  -- A refusal of one entry is one of all of them, where those before hold.
  pub refuses_at : (rows : RowTexts) (xs : List X) (i : ℕ) (x : X) (e : LocatedFault ModelKind) → i < length xs → x ≡ get_or xs i x
      → Passes rows (flat_map f (take i xs))
      → Refuses rows (f x) e → Refuses rows (flat_map f xs) e
  refuses_at rows xs i x e within is front refused =
      let upto : Refuses rows (flat_map f (take (i + 1) xs)) e = subst (λ (l : List Check). Refuses rows l e) (sym (flat_more xs i x within is))
      (refuses_after rows (flat_map f (take i xs)) (f x) e front refused) in
      subst (λ (l : List Check). Refuses rows l e) (sym (flat_map-append f (take (i + 1) xs) (drop (i + 1) xs)) ∙ ap (flat_map f) (take-append-drop (i + 1) xs))
      (refuses_before rows (flat_map f (take (i + 1) xs)) (flat_map f (drop (i + 1) xs)) e upto)

module _ (f : Path × Found → List Check) (rows : RowTexts) (name : List ℕ) (document below : Members) (are : section_members name document ≡ below) where
  -- A section passes where it is a table and its entries do.
  pub section_passes : Passes rows (table_check name document ∷ []) → Passes rows (flat_map f (members_entries [] below))
      → Passes rows (table_check name document ∷ flat_map f (section_entries name document))
  section_passes table each = (table.0, subst (λ (m : Members). Passes rows (flat_map f (members_entries [] m))) (sym are) each)

  -- A section is refused where it is a table and its entries are refused.
  pub section_refuses : (e : LocatedFault ModelKind) → Passes rows (table_check name document ∷ []) → Refuses rows (flat_map f (members_entries [] below)) e
      → Refuses rows (table_check name document ∷ flat_map f (section_entries name document)) e
  section_refuses e table refused =
      refuses_after rows (table_check name document ∷ []) (flat_map f (section_entries name document)) e table
      (subst (λ (m : Members). Refuses rows (flat_map f (members_entries [] m)) e) (sym are) refused)

-- Or where it is no table.
pub table_refuses : (f : Path × Found → List Check) (rows : RowTexts) (name : List ℕ) (document : Members) (e : LocatedFault ModelKind)
    → Refuses rows (table_check name document ∷ []) e → Refuses rows (table_check name document ∷ flat_map f (section_entries name document)) e
table_refuses f rows name document e refused = refuses_before rows (table_check name document ∷ []) (flat_map f (section_entries name document)) e refused
