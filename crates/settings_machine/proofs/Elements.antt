-- Elements of lists, and tests of keys and names.
use Rattle.std.proofs.Common.{◌≡◌, ◌⊎◌, inl, inr, ⊎_elim, ℕ, Bool, true, false, cond, List, [], ◌∷◌, ◌++◌, map, filter, Some, None, is_some, refl}
use Rattle.std.proofs.Common.{sym, ◌∙◌, ap, subst}
use Rattle.std.specs.Prelude.{fold, if◌then◌else◌}
use Rattle.std.specs.List.{flat_map, list_any}
use Rattle.std.specs.Str.{bytes_eq}
use Rattle.std.specs.declared.cmp.Ordering.{Ordering}
use Rattle.std.specs.declared.cmp.Ordering.TheVariants.{Less, Equal, Greater}
use Rattle.std.specs.Ordering.{eq_by_cmp, is_eq, is_lt}
use Rattle.std.specs.FinMap.{FinMap, get, entries, keys, contains_key-keys, get-entries, find, is_sorted, IsAntisymmetric}
use Rattle.std.specs.FinMap.Entries.{below_all}
use Rattle.std.proofs.lemmas.Bool.{or_cases, or_left, or_right, and_parts, cond-true, cond-false}
use Rattle.std.proofs.lemmas.Slice.Eq.{bytes_eq-Decides}
use Rattle.outside.specs.Names.{path_cmp}
use Rattle.key_names.specs.Order.{bytes_cmp, key_cmp}
use Rattle.key_names.proofs.Ties.{same_bytes, same_key}
use Rattle.settings_maps.proofs.NestedMaps.{tied_by}
use Rattle.settings_maps.specs.KeyList.{has_key}
use Rattle.settings_tree.proofs.Rising.{entries_rise}
use Rattle.metadata_links.specs.Faults.{has_name}
use Rattle.metadata_links.specs.Firsts.{firsts}
use Rattle.metadata_links.specs.Rising.{rising, set_of}
use Rattle.metadata_links.proofs.Sets.{contains-set_of}
use Rattle.settings_machine.specs.World.{Key, Among}

-- ---- elements

module _ {X : Type 0} where
  pub among_left : (xs ys : List X) (x : X) → Among xs x → Among (xs ++ ys) x
  among_left [] ys x at = absurd at
  among_left (y ∷ xs) ys x (inl here) = inl here
  among_left (y ∷ xs) ys x (inr there) = inr (among_left xs ys x there)

  pub among_right : (xs ys : List X) (x : X) → Among ys x → Among (xs ++ ys) x
  among_right [] ys x at = at
  among_right (y ∷ xs) ys x at = inr (among_right xs ys x at)

  pub among_both : (xs ys : List X) (x : X) → Among (xs ++ ys) x → Among xs x ⊎ Among ys x
  among_both [] ys x at = inr at
  among_both (y ∷ xs) ys x (inl here) = inl (inl here)
  among_both (y ∷ xs) ys x (inr there) = ⊎_elim (λ a. inl (inr a)) (λ b. inr b) (among_both xs ys x there)

  pub among_filter : (p : X → Bool) (xs : List X) (x : X) → Among (filter p xs) x → Among xs x × (p x ≡ true)
  among_filter p [] x at = absurd at
  among_filter p (y ∷ xs) x at = by (p y) refl (among_filter p xs x) at where
    by : (b : Bool) → p y ≡ b → (Among (filter p xs) x → Among xs x × (p x ≡ true)) → Among (cond b (y ∷ filter p xs) (filter p xs)) x → Among (y ∷ xs) x
        × (p x ≡ true)
    by true is rest (inl here) = (inl here, ap p here ∙ is)
    by true is rest (inr there) = let t = rest there in (inr t.0, t.1)
    by false is rest there = let t = rest there in (inr t.0, t.1)

  pub filter_among : (p : X → Bool) (xs : List X) (x : X) → Among xs x → p x ≡ true → Among (filter p xs) x
  filter_among p [] x at is = absurd at
  filter_among p (y ∷ xs) x (inl here) is = by (p y) (ap p (sym here) ∙ is) where
    by : (b : Bool) → b ≡ true → Among (cond b (y ∷ filter p xs) (filter p xs)) x
    by true e = inl here
    by false e = absurd (cc e)
  filter_among p (y ∷ xs) x (inr there) is = by (p y) (filter_among p xs x there is) where
    by : (b : Bool) → Among (filter p xs) x → Among (cond b (y ∷ filter p xs) (filter p xs)) x
    by true at = inr at
    by false at = at

module _ {X Y : Type 0} where
  pub among_map : (f : X → Y) (xs : List X) (x : X) → Among xs x → Among (map f xs) (f x)
  among_map f [] x at = absurd at
  among_map f (y ∷ xs) x (inl here) = inl (ap f here)
  among_map f (y ∷ xs) x (inr there) = inr (among_map f xs x there)

  pub map_among : (f : X → Y) (xs : List X) (y : Y) → Among (map f xs) y → (x : X) × Among xs x × (y ≡ f x)
  map_among f [] y at = absurd at
  map_among f (x ∷ xs) y (inl here) = (x, inl refl, here)
  map_among f (x ∷ xs) y (inr there) = let t = map_among f xs y there in (t.0, inr t.1, t.2)

  pub among_flat : (f : X → List Y) (xs : List X) (x : X) (y : Y) → Among xs x → Among (f x) y → Among (flat_map f xs) y
  among_flat f [] x y at in_it = absurd at
  among_flat f (z ∷ xs) x y (inl here) in_it = among_left (f z) (flat_map f xs) y (subst (λ (w : X). Among (f w) y) here in_it)
  among_flat f (z ∷ xs) x y (inr there) in_it = among_right (f z) (flat_map f xs) y (among_flat f xs x y there in_it)

  pub flat_among : (f : X → List Y) (xs : List X) (y : Y) → Among (flat_map f xs) y → (x : X) × Among xs x × Among (f x) y
  flat_among f [] y at = absurd at
  flat_among f (x ∷ xs) y at = ⊎_elim (λ here. (x, inl refl, here)) (λ there. let t = flat_among f xs y there in (t.0, inr t.1, t.2))
      (among_both (f x) (flat_map f xs) y at)

-- ---- keys and names

pub key_tied : (a b : Key) → eq_by_cmp key_cmp a b ≡ true → a ≡ b
key_tied a b e = (same_key a b _ _ refl refl).0 e

pub key_itself : (a : Key) → eq_by_cmp key_cmp a a ≡ true
key_itself a = (same_key a a _ _ refl refl).1 refl

pub name_tied : (a b : List ℕ) → eq_by_cmp bytes_cmp a b ≡ true → a ≡ b
name_tied a b e = (same_bytes a b _ _ refl refl).0 e

pub name_itself : (a : List ℕ) → eq_by_cmp bytes_cmp a a ≡ true
name_itself a = (same_bytes a a _ _ refl refl).1 refl

pub path_tied : (a b : List (List ℕ)) → eq_by_cmp path_cmp a b ≡ true → a ≡ b
path_tied a b e = (same_key a b _ _ refl refl).0 e

pub path_itself : (a : List (List ℕ)) → eq_by_cmp path_cmp a a ≡ true
path_itself a = (same_key a a _ _ refl refl).1 refl

pub key_among : (keys : List Key) (k : Key) → has_key keys k ≡ true → Among keys k
key_among [] k e = absurd (cc e)
key_among (q ∷ keys) k e = ⊎_elim (λ here. inl (key_tied k q here)) (λ there. inr (key_among keys k there)) (or_cases (eq_by_cmp key_cmp k q) _ e)

pub among_key : (keys : List Key) (k : Key) → Among keys k → has_key keys k ≡ true
among_key [] k at = absurd at
among_key (q ∷ keys) k (inl here) = or_left _ _ (ap (eq_by_cmp key_cmp k) (sym here) ∙ key_itself k)
among_key (q ∷ keys) k (inr there) = or_right _ _ (among_key keys k there)

pub name_among : (names : List (List ℕ)) (q : List ℕ) → has_name names q ≡ true → Among names q
name_among [] q e = absurd (cc e)
name_among (n ∷ names) q e = ⊎_elim (λ here. inl (name_tied q n here)) (λ there. inr (name_among names q there)) (or_cases (eq_by_cmp bytes_cmp q n) _ e)

pub among_name : (names : List (List ℕ)) (q : List ℕ) → Among names q → has_name names q ≡ true
among_name [] q at = absurd at
among_name (n ∷ names) q (inl here) = or_left _ _ (ap (eq_by_cmp bytes_cmp q) (sym here) ∙ name_itself q)
among_name (n ∷ names) q (inr there) = or_right _ _ (among_name names q there)

-- ---- lists of names without repetition

rising_same : (names : List (List ℕ)) (q : List ℕ) → has_name (rising names) q ≡ has_name names q
rising_same names q = sym (contains_key-keys (set_of names) q) ∙ contains-set_of names q

pub among_rising : (names : List (List ℕ)) (q : List ℕ) → Among names q → Among (rising names) q
among_rising names q at = name_among (rising names) q (rising_same names q ∙ among_name names q at)

pub rising_among : (names : List (List ℕ)) (q : List ℕ) → Among (rising names) q → Among names q
rising_among names q at = name_among names q (sym (rising_same names q) ∙ among_name (rising names) q at)

-- The names with one more, unless it is among them.
abbrev with_name : List (List ℕ) → List ℕ → List (List ℕ)
with_name names name = if list_any (bytes_eq name) names then names else names ++ name ∷ []

had_among : (names : List (List ℕ)) (q : List ℕ) → list_any (bytes_eq q) names ≡ true → Among names q
had_among [] q e = absurd (cc e)
had_among (n ∷ names) q e = ⊎_elim (λ here. inl ((bytes_eq-Decides q n).0 here)) (λ there. inr (had_among names q there)) (or_cases (bytes_eq q n) _ e)

with_name_among : (names : List (List ℕ)) (n q : List ℕ) → Among (with_name names n) q → Among names q ⊎ (q ≡ n)
with_name_among names n q at = by (list_any (bytes_eq n) names) at where
  by : (b : Bool) → Among (cond b names (names ++ n ∷ [])) q → Among names q ⊎ (q ≡ n)
  by true at = inl at
  by false at = ⊎_elim (λ a. inl a) (λ b. ⊎_elim (λ here. inr here) (λ no_more. absurd no_more) b) (among_both names (n ∷ []) q at)

among_with_name : (names : List (List ℕ)) (n q : List ℕ) → Among names q ⊎ (q ≡ n) → Among (with_name names n) q
among_with_name names n q at = by (list_any (bytes_eq n) names) refl at where
  by : (b : Bool) → list_any (bytes_eq n) names ≡ b → Among names q ⊎ (q ≡ n) → Among (cond b names (names ++ n ∷ [])) q
  by true is (inl old) = old
  by true is (inr new) = subst (Among names) (sym new) (had_among names n is)
  by false is (inl old) = among_left names (n ∷ []) q old
  by false is (inr new) = among_right names (n ∷ []) q (inl new)

folded_among : (names more : List (List ℕ)) (q : List ℕ) → Among (fold with_name names more) q → Among names q ⊎ Among more q
folded_among names [] q at = inl at
folded_among names (n ∷ more) q at =
    ⊎_elim (λ a. ⊎_elim (λ old. inl old) (λ new. inr (inl new)) (with_name_among names n q a)) (λ b. inr (inr b)) (folded_among (with_name names n) more q at)

among_folded : (names more : List (List ℕ)) (q : List ℕ) → Among names q ⊎ Among more q → Among (fold with_name names more) q
among_folded names [] q (inl old) = old
among_folded names [] q (inr at) = absurd at
among_folded names (n ∷ more) q (inl old) = among_folded (with_name names n) more q (inl (among_with_name names n q (inl old)))
among_folded names (n ∷ more) q (inr (inl here)) = among_folded (with_name names n) more q (inl (among_with_name names n q (inr here)))
among_folded names (n ∷ more) q (inr (inr there)) = among_folded (with_name names n) more q (inr there)

pub firsts_among : (names : List (List ℕ)) (q : List ℕ) → Among (firsts names) q → Among names q
firsts_among names q at = ⊎_elim (λ none. absurd none) (λ a. a) (folded_among [] names q at)

pub among_firsts : (names : List (List ℕ)) (q : List ℕ) → Among names q → Among (firsts names) q
among_firsts names q at = among_folded [] names q (inr at)

-- ---- entries of a map

module _ {K X : Type 0} (R : K → K → Ordering) (same : IsAntisymmetric R) where
  not_behind : (q k : K) (es : List (K × X)) → eq_by_cmp R q k ≡ true → below_all R k es ≡ true → find R q es ≡ None
  not_behind q k [] tie below = refl
  not_behind q k (e ∷ es) tie below =
      let both = and_parts (is_lt (R k e.0)) (below_all R k es) below in
      cond-false _ _ _ (apart both.0) ∙ not_behind q k es tie both.1
    where
      less : (r : Ordering) → is_lt r ≡ true → is_eq r ≡ false
      less Less l = refl
      less Equal l = absurd (cc l)
      less Greater l = absurd (cc l)

      apart : is_lt (R k e.0) ≡ true → eq_by_cmp R q e.0 ≡ false
      apart l = ap (λ (z : K). eq_by_cmp R z e.0) (same q k (tied_by (R q k) tie)) ∙ less (R k e.0) l

  -- What is among entries that rise is found at its key.
  pub entry_found : (es : List (K × X)) (k : K) (x : X) → eq_by_cmp R k k ≡ true → is_sorted R es ≡ true → Among es (k, x) → find R k es ≡ Some x
  entry_found [] k x itself rises at = absurd at
  entry_found (e ∷ es) k x itself rises (inl here) =
      cond-true _ _ _ (ap (λ (p : K × X). eq_by_cmp R k p.0) (sym here) ∙ itself) ∙ ap (λ (p : K × X). Some p.1) (sym here)
  entry_found (e ∷ es) k x itself rises (inr there) =
      let both = and_parts (below_all R e.0 es) (is_sorted R es) rises in
      by (eq_by_cmp R k e.0) refl both.0 (entry_found es k x itself both.1 there)
    where
      by : (b : Bool) → eq_by_cmp R k e.0 ≡ b → below_all R e.0 es ≡ true → find R k es ≡ Some x → cond b (Some e.1) (find R k es) ≡ Some x
      by true is below found = absurd (cc (not_behind k e.0 es is below, found))
      by false is below found = found

module _ {K X : Type 0} {R : K → K → Ordering} (same : IsAntisymmetric R) where
  find_among : (es : List (K × X)) (q : K) (x : X) → find R q es ≡ Some x → Among es (q, x)
  find_among [] q x e = absurd (cc e)
  find_among (y ∷ es) q x e = by (eq_by_cmp R q y.0) refl (find_among es q x) e where
    by : (b : Bool) → eq_by_cmp R q y.0 ≡ b → (find R q es ≡ Some x → Among es (q, x)) → cond b (Some y.1) (find R q es) ≡ Some x → Among (y ∷ es) (q, x)
    by true is rest found = inl (let p : q ≡ y.0 = same q y.0 (tied_by (R q y.0) is) in let v : x ≡ y.1 = cc in λ i. (p i, v i))
    by false is rest found = inr (rest found)

  -- What is at a key is among the entries.
  pub entry_among : (m : FinMap R X) (q : K) (x : X) → get m q ≡ Some x → Among (entries m) (q, x)
  entry_among m q x e = find_among (entries m) q x (sym (get-entries m q) ∙ e)

  -- What is among the entries of a map is in it.
  pub entry_stands : (m : FinMap R X) (q : K) (x : X) → eq_by_cmp R q q ≡ true → Among (entries m) (q, x) → get m q ≡ Some x
  entry_stands m q x itself at = get-entries m q ∙ entry_found R same (entries m) q x itself (entries_rise m) at

module _ {X : Type 0} where
  -- A name at which there is something is among the keys.
  pub named_among : (m : FinMap bytes_cmp X) (q : List ℕ) → is_some (get m q) ≡ true → Among (keys m) q
  named_among m q e = name_among (keys m) q (sym (contains_key-keys m q) ∙ e)

  pub among_named : (m : FinMap bytes_cmp X) (q : List ℕ) → Among (keys m) q → is_some (get m q) ≡ true
  among_named m q at = contains_key-keys m q ∙ among_name (keys m) q at
