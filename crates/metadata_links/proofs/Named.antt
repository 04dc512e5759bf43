-- Whether names are there, and lists that take each name once.
use Rattle.std.proofs.Common.{String, string_bytes, map, cond, ◌≡◌, ◌++◌, ℕ, List, [], ◌∷◌, fold, not, Option}
use Rattle.std.proofs.Common.{Some, None, is_some, Bor, append-nil, append_assoc, Bool, true, false, refl, sym, ◌∙◌, ap}
use Rattle.std.specs.Prelude.{◌||◌}
use Rattle.std.specs.Ordering.{eq_by_cmp}
use Rattle.std.specs.Prelude.{string_eq}
use Rattle.std.specs.Str.{bytes_eq}
use Rattle.std.specs.Option.{option_copied}
use Rattle.std.specs.List.{list_any}
use Rattle.std.specs.FinMap.{FinMap, get, keys, contains_key-keys}
use Rattle.std.proofs.lemmas.List.{map-append}
use Rattle.std.proofs.lemmas.List.Folds.{list_any-append}
use Rattle.key_names.specs.Order.{bytes_cmp}
use Rattle.metadata_links.specs.Faults.{has_name}
use Rattle.indexmap.specs.IndexSet.{insert_key}
use Rattle.metadata_links.specs.Rising.{Names, set_of, with_member}
use Rattle.metadata_links.proofs.Sets.{same_names, contains-set_of, contains-with_member}

some_copied : {X : Type 0} (o : Option (Bor X)) → is_some o ≡ is_some (option_copied o)
some_copied None = refl
some_copied (Some x) = refl

-- What is found has its name among the keys.
pub found_known : {X : Type 0} (m : FinMap bytes_cmp X) (q name : List ℕ) (o : Option (Bor X)) (b : Bool) → option_copied o ≡ get m q → b ≡ is_some o → q ≡ name
    → b ≡ has_name (keys m) name
found_known m q name o b found is same = is ∙ some_copied o ∙ ap is_some found ∙ contains_key-keys m q
    ∙ ap (λ z. list_any (eq_by_cmp bytes_cmp z) (keys m)) same

not_twice : (b : Bool) → not (not b) ≡ b
not_twice true = refl
not_twice false = refl

-- What is not found has no name among them.
pub missing_known : {X : Type 0} (m : FinMap bytes_cmp X) (q name : List ℕ) (o : Option (Bor X)) (b : Bool) → option_copied o ≡ get m q → is_some o ≡ not b
    → q ≡ name → not (has_name (keys m) name) ≡ b
missing_known m q name o b found is same = ap not (sym (found_known m q name o (is_some o) found refl same) ∙ is) ∙ not_twice b

or_swap : (a b : Bool) → (a || (b || false)) ≡ (b || a)
or_swap true true = refl
or_swap true false = refl
or_swap false true = refl
or_swap false false = refl

-- The set of a list with one name more.
pub set_pushed : (names : List (List ℕ)) (name : List ℕ) → set_of (names ++ name ∷ []) ≡ with_member (set_of names) name
set_pushed names name = same_names _ _ (λ q.
    contains-set_of (names ++ name ∷ []) q ∙ list_any-append (eq_by_cmp bytes_cmp q) names (name ∷ [])
    ∙ or_swap (list_any (eq_by_cmp bytes_cmp q) names) (eq_by_cmp bytes_cmp q name)
    ∙ ap (λ b. eq_by_cmp bytes_cmp q name || b) (sym (contains-set_of names q)) ∙ sym (contains-with_member (set_of names) name q))

-- All names of a list are put into the set.
pub set_grown : (names more : List (List ℕ)) → fold with_member (set_of names) more ≡ set_of (names ++ more)
set_grown names [] = ap set_of (sym (append-nil names))
set_grown names (name ∷ more) = ap (λ (s : Names). fold with_member s more) (sym (set_pushed names name)) ∙ set_grown (names ++ name ∷ []) more
    ∙ ap set_of (append_assoc names (name ∷ []) more)

-- ---- lists that take each name once

module _ {Z : Type 0} where
  any_text : (t : String Z) (ts : List (String Z)) → list_any (string_eq t) ts ≡ list_any (bytes_eq (string_bytes t)) (map (λ s. string_bytes s) ts)
  any_text t [] = refl
  any_text t (s ∷ ts) = ap (λ b. string_eq t s || b) (any_text t ts)

  text_put : (ts : List (String Z)) (t : String Z) → map (λ s. string_bytes s) (insert_key string_eq ts t) ≡ insert_key bytes_eq (map (λ s. string_bytes s) ts)
      (string_bytes t)
  text_put ts t = by (list_any (string_eq t) ts) ∙ ap (λ b. cond b (map (λ s. string_bytes s) ts) (map (λ s. string_bytes s) ts ++ string_bytes t ∷ []))
      (any_text t ts) where
        by : (b : Bool) → map (λ s. string_bytes s) (cond b ts (ts ++ t ∷ [])) ≡ cond b (map (λ s. string_bytes s) ts)
            (map (λ s. string_bytes s) ts ++ string_bytes t ∷ [])
        by true = refl
        by false = map-append (λ s. string_bytes s) ts (t ∷ [])

  -- What is put into the set of texts is put into the list of their bytes.
  pub first_put : (ts now : List (String Z)) (t : String Z) (all : List (List ℕ)) (name : List ℕ) → map (λ s. string_bytes s) ts ≡ all
      → now ≡ insert_key string_eq ts t → string_bytes t ≡ name → map (λ s. string_bytes s) now ≡ insert_key bytes_eq all name
  first_put ts now t all name are put is = ap (map (λ s. string_bytes s)) put ∙ text_put ts t ∙ (λ i. insert_key bytes_eq (are i) (is i))
