-- The names of the operating system.
use Rattle.std.proofs.Common.{◌≡◌, ℕ, List, [], ◌∷◌, ◌++◌, Bool, true, false, ◌&&◌, Option, Some}
use Rattle.std.proofs.Common.{None, String, Global, string_bytes, Less, length, map, append_assoc, subst, sym, ap, ◌∙◌}
use Rattle.std.proofs.lemmas.List.{map-append}
use Rattle.std.specs.Prelude.{if◌then◌else◌, nat_lt, is_some, codes}
use Rattle.std.specs.List.{AllByRecursion, list_all}
use Rattle.std.specs.List.Sorted.{IsStrictlySortedBy}
use Rattle.std.specs.Map.{keys_of}
use Rattle.std.specs.String.{string_cmp}
use Rattle.key_names.specs.Order.{bytes_cmp}
use Rattle.key_names.specs.Segment.{is_bare}
use Rattle.settings_tree.specs.declared.os.OsName.{OsName}
use Rattle.toml.specs.Data.{Data, Members, member}
use Rattle.toml.specs.View.{members_view}
use Rattle.toml.specs.declared.value.Value.{Value}
use Rattle.model_file.specs.Checks.{os_check, os_checks, table_check}
use Rattle.model_file.specs.Contents.{with_found, os_texts}
use Rattle.toml_values.specs.Document.{named}
use Rattle.model_file.specs.Document.{section_members}
use Rattle.model_file.specs.Refused.{Passes, Refuses, IsAt}
use Rattle.toml_values.specs.Values.{text_of}
use Rattle.model_file.specs.declared.model_error.ModelKind.TheVariants.{BadOs}
use Rattle.toml_values.specs.declared.located_fault.LocatedFault.{LocatedFault}
use Rattle.model_file.specs.declared.model_error.ModelKind.{ModelKind}
use Rattle.model_file.proofs.Checking.{refuses_first, refuses_after}

neither : (b : Bool) (o : Option (List ℕ)) → None ≡ (if b then o else None) → (b && is_some o) ≡ true → ⊥
neither true None none holds = cc holds
neither true (Some s) none holds = cc none
neither false o none holds = cc holds

-- An entry with no bare name, or with no text.
pub os_refused : (name : List ℕ) (d : Data) (e : LocatedFault ModelKind) → None ≡ (if nat_lt 0 (length name) && list_all is_bare name then text_of d else None)
    → IsAt BadOs (codes "os" ∷ name ∷ []) e
    → (rows : List (List ℕ × List ℕ)) → Refuses rows (os_check (name, d) ∷ []) e
os_refused name d e none at rows = refuses_first rows (os_check (name, d)) [] e (neither _ (text_of d) none) at

abbrev pub Entry : Type 0
Entry = String Global × Value

-- The names of some members, in their order.
abbrev pub names_in : Members → List (List ℕ)
names_in ms = map (λ e. e.0) (named ms)

below : (k : String Global) (entries : List Entry) → AllByRecursion (λ y. string_cmp k y ≡ Less) (keys_of entries)
    → AllByRecursion (λ y. bytes_cmp (string_bytes k) y ≡ Less) (names_in (members_view entries))
below k [] h = tt
below k (e ∷ entries) h = (h.0, below k entries h.1)

-- The names of a table rise.
pub rising_names : (entries : List Entry) → IsStrictlySortedBy string_cmp (keys_of entries) → IsStrictlySortedBy bytes_cmp (names_in (members_view entries))
unfolding IsStrictlySortedBy
rising_names [] h = tt
rising_names (e ∷ entries) h = (below e.0 entries h.0, rising_names entries h.1)

pushed : {X : Type 0} (f : OsName → X) (names more : List OsName) (n : OsName) (rest : List X) → more ≡ names ++ n ∷ []
    → map f more ++ rest ≡ map f names ++ f n ∷ rest
pushed f names more n rest is =
    ap (λ (l : List OsName). map f l ++ rest) is ∙ ap (λ l. l ++ rest) (map-append f names (n ∷ [])) ∙ append_assoc (map f names) (f n ∷ []) rest

-- The next entry's name and text are pushed.
pub texts_grown : (names more : List OsName) (n : OsName) (left rest : Members) (name bytes : List ℕ) (d : Data) (whole : List (List ℕ × List ℕ))
    → more ≡ names ++ n ∷ [] → left ≡ member name d rest → bytes ≡ name → n.name ≡ bytes
    → Some n.text ≡ text_of d → map (λ n. (n.name, n.text)) names ++ os_texts (named left) ≡ whole
    → map (λ n. (n.name, n.text)) more ++ os_texts (named rest) ≡ whole
texts_grown names more n left rest name bytes d whole is next same own text so_far =
    let found : with_found name (text_of d) ≡ (n.name, n.text) ∷ [] = ap (with_found name) (sym text)
    ∙ ap (λ (m : List ℕ). (m, n.text) ∷ []) (sym (own ∙ same)) in
    pushed (λ n. (n.name, n.text)) names more n (os_texts (named rest)) is
    ∙ ap (λ (l : List (List ℕ × List ℕ)). map (λ n. (n.name, n.text)) names ++ (l ++ os_texts (named rest))) (sym found)
    ∙ ap (λ (ms : Members). map (λ n. (n.name, n.text)) names ++ os_texts (named ms)) (sym next) ∙ so_far

-- And the names still rise.
pub rising_grown : (names more : List OsName) (n : OsName) (left rest : Members) (name bytes : List ℕ) (d : Data) → more ≡ names ++ n ∷ []
    → left ≡ member name d rest → bytes ≡ name → n.name ≡ bytes
    → IsStrictlySortedBy bytes_cmp (map (λ n. n.name) names ++ names_in left) → IsStrictlySortedBy bytes_cmp (map (λ n. n.name) more ++ names_in rest)
rising_grown names more n left rest name bytes d is next same own rising =
    subst (IsStrictlySortedBy bytes_cmp)
    (ap (λ (ms : Members). map (λ n. n.name) names ++ names_in ms) next ∙ ap (λ (m : List ℕ). map (λ n. n.name) names ++ m ∷ names_in rest) (sym (own ∙ same))
    ∙ sym (pushed (λ n. n.name) names more n (names_in rest) is))
    rising

-- What holds of an entry's check holds at the name that the table has.
pub passes_at : (name bytes : List ℕ) (d : Data) → bytes ≡ name → ((rows : List (List ℕ × List ℕ)) → Passes rows (os_check (bytes, d) ∷ []))
    → (rows : List (List ℕ × List ℕ)) → Passes rows (os_check (name, d) ∷ [])
passes_at name bytes d same holds rows = subst (λ (n : List ℕ). Passes rows (os_check (n, d) ∷ [])) same (holds rows)

-- And what is refused.
pub refuses_at : (name bytes : List ℕ) (d : Data) (e : LocatedFault ModelKind) → bytes ≡ name → ((rows : List (List ℕ × List ℕ))
    → Refuses rows (os_check (bytes, d) ∷ []) e)
    → (rows : List (List ℕ × List ℕ)) → Refuses rows (os_check (name, d) ∷ []) e
refuses_at name bytes d e same refused rows = subst (λ (n : List ℕ). Refuses rows (os_check (n, d) ∷ []) e) same (refused rows)

-- The section is a table, and all of its entries hold.
pub section_passes : (rows : List (List ℕ × List ℕ)) (document ms : Members) → section_members (codes "os") document ≡ ms
    → Passes rows (table_check (codes "os") document ∷ []) → Passes rows (map os_check (named ms)) → Passes rows (os_checks document)
section_passes rows document ms is holds all = (holds.0, subst (λ (m : Members). Passes rows (map os_check (named m))) (sym is) all)

-- The section is a table, and the first of its entries that fails is refused.
pub section_refuses : (rows : List (List ℕ × List ℕ)) (document ms : Members) (e : LocatedFault ModelKind) → section_members (codes "os") document ≡ ms
    → Passes rows (table_check (codes "os") document ∷ []) → Refuses rows (map os_check (named ms)) e
    → Refuses rows (os_checks document) e
section_refuses rows document ms e is holds refused =
    refuses_after rows (table_check (codes "os") document ∷ []) _ e holds (subst (λ (m : Members). Refuses rows (map os_check (named m)) e) (sym is) refused)
