-- Walks through the entries of a map, and the order of their keys.
use Rattle.std.proofs.Common.{◌≡◌, ◌||◌, ℕ, Bor, List, [], ◌∷◌, ◌++◌, Option, Some, None, IsSome, is_some, Bool}
use Rattle.std.proofs.Common.{true, false, cond, filter, map, unwrap_or, refl, sym, ◌∙◌, ap, subst, append-nil}
use Rattle.std.specs.List.{list_any}
use Rattle.std.specs.Option.{option_copied}
use Rattle.std.specs.List.Sorted.{IsStrictlySortedBy}
use Rattle.std.specs.FinMap.{FinMap, empty, entries, get, keys}
use Rattle.std.proofs.lemmas.Bool.{cond-true, cond-false}
use Rattle.key_names.specs.Order.{bytes_cmp, bytes_total, bytes_cmp-IsAntisymmetric, key_cmp}
use Rattle.settings_maps.specs.Maps.{inner, value_at, IsLeastKeyAfter}
use Rattle.settings_tree.specs.Walks.{entries_past}
use Rattle.settings_tree.proofs.Rising.{entries_rise, sorted_keys}
use Rattle.settings_tree.proofs.Walks.{walk_next, listed_more}

-- The names of a map rise.
pub names_rise : {X : Type 0} (m : FinMap bytes_cmp X) (list : List (List ℕ)) → list ≡ keys m → IsStrictlySortedBy bytes_cmp list
names_rise {X} m list is = subst (IsStrictlySortedBy bytes_cmp) (sym is) (sorted_keys bytes_cmp (entries m) (entries_rise m))

-- Each step of a walk through the names gives the next one.
pub names_next : {X : Type 0} (m : FinMap bytes_cmp X) (after : Option (List ℕ)) (k : List ℕ) → IsLeastKeyAfter m after k
    → map (λ e. e.0) (entries_past m after) ≡ k ∷ map (λ e. e.0) (entries_past m (Some k))
names_next {X} m after k next = by (get m k) refl next.stands where
  by : (o : Option X) → get m k ≡ o → IsSome o → map (λ e. e.0) (entries_past m after) ≡ k ∷ map (λ e. e.0) (entries_past m (Some k))
  by None is has = absurd (cc has)
  by (Some x) is has = ap (map (λ (e : List ℕ × X). e.0)) (walk_next bytes_total bytes_cmp-IsAntisymmetric m after k x
      (record { stands = is; past = next.past; least = next.least }))

-- Each step of a walk through the names of a map of maps gives the next one, with its map.
pub inner_next : {X : Type 0} (m : FinMap bytes_cmp (FinMap key_cmp X)) (after : Option (List ℕ)) (k : List ℕ) → IsLeastKeyAfter m after k
    → entries_past m after ≡ (k, inner m k) ∷ entries_past m (Some k)
inner_next {X} m after k next = by (get m k) refl next.stands where
  by : (o : Option (FinMap key_cmp X)) → get m k ≡ o → IsSome o → entries_past m after ≡ (k, inner m k) ∷ entries_past m (Some k)
  by None is has = absurd (cc has)
  by (Some i) is has = walk_next bytes_total bytes_cmp-IsAntisymmetric m after k i (record { stands = is; past = next.past; least = next.least })
      ∙ ap (λ (j : FinMap key_cmp X). (k, j) ∷ entries_past m (Some k)) (sym (ap (λ (o : Option (FinMap key_cmp X)). unwrap_or o empty) is))

-- The value is there where the reference is.
pub some_copied : {X : Type 0} (o : Option (Bor X)) → is_some (option_copied o) ≡ is_some o
some_copied None = refl
some_copied (Some x) = refl

-- A test of what each transaction has for a key, at the next of them: where it has something, and where it has nothing.
pub any_found : {X : Type 0} (m : FinMap bytes_cmp (FinMap key_cmp X)) (after : Option (List ℕ)) (t : List ℕ) (k : List (List ℕ)) (all : Bool)
    → IsLeastKeyAfter m after t → is_some (value_at m t k) ≡ true → list_any (λ e. is_some (get e.1 k)) (entries_past m after) ≡ all → true ≡ all
any_found m after t k all next some whole = sym (ap (λ b. b || list_any (λ e. is_some (get e.1 k)) (entries_past m (Some t))) some)
    ∙ sym (ap (list_any (λ e. is_some (get e.1 k))) (inner_next m after t next)) ∙ whole

pub any_passed : {X : Type 0} (m : FinMap bytes_cmp (FinMap key_cmp X)) (after : Option (List ℕ)) (t : List ℕ) (k : List (List ℕ)) (all : Bool)
    → IsLeastKeyAfter m after t → is_some (value_at m t k) ≡ false → list_any (λ e. is_some (get e.1 k)) (entries_past m after) ≡ all
    → list_any (λ e. is_some (get e.1 k)) (entries_past m (Some t)) ≡ all
any_passed m after t k all next none whole = sym (ap (λ b. b || list_any (λ e. is_some (get e.1 k)) (entries_past m (Some t))) none)
    ∙ sym (ap (list_any (λ e. is_some (get e.1 k))) (inner_next m after t next)) ∙ whole

-- A walk begins with nothing given.
pub begun : {E : Type 0} (all done left : List E) → done ≡ [] → left ≡ all → done ++ left ≡ all
begun all done left none whole = ap (λ (l : List _). l ++ left) none ∙ whole

-- A list of what is made of those that pass a test, with what is left.
pub added_more : {E B : Type 0} (p : E → Bool) (f : E → B) (all done now : List B) (left rest : List E) (e : E) → done ++ map f (filter p left) ≡ all
    → left ≡ e ∷ rest → now ≡ done ++ cond (p e) (f e ∷ []) [] → now ++ map f (filter p rest) ≡ all
added_more {E} {B} p f all done now left rest e whole next pushed = by (p e) refl pushed where
  by : (b : Bool) → p e ≡ b → now ≡ done ++ cond b (f e ∷ []) [] → now ++ map f (filter p rest) ≡ all
  by true passes pushed = listed_more all done now (map f (filter p left)) (map f (filter p rest)) (f e) whole
      (ap (λ (l : List E). map f (filter p l)) next ∙ ap (map f) (cond-true _ _ _ passes)) pushed
  by false fails pushed = ap (λ (l : List B). l ++ map f (filter p rest)) (pushed ∙ append-nil done)
      ∙ sym (ap (λ (l : List E). done ++ map f (filter p l)) next ∙ ap (λ (l : List E). done ++ map f l) (cond-false _ _ _ fails)) ∙ whole
