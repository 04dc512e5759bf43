-- The order of the entries of a map, and of some of them.
use Rattle.std.proofs.Common.{◌≡◌, ℕ, List, [], ◌∷◌, Bool, true, false, T, cond, filter, map, refl, sym, subst}
use Rattle.std.specs.declared.cmp.Ordering.{Ordering}
use Rattle.std.specs.declared.cmp.Ordering.TheVariants.{Less, Equal, Greater}
use Rattle.std.specs.Ordering.{is_lt}
use Rattle.std.specs.List.{AllByRecursion}
use Rattle.std.specs.List.Sorted.{IsStrictlySortedBy}
use Rattle.std.specs.FinMap.{FinMap, is_sorted, entries, entries_sorted, keys}
use Rattle.std.specs.FinMap.Entries.{below_all}
use Rattle.std.proofs.lemmas.Bool.{and_parts, and_from}
use Rattle.key_names.specs.Order.{key_cmp}
use Rattle.settings_maps.specs.KeyList.{IsRising}

of_T : (b : Bool) → T b → b ≡ true
of_T true holds = refl
of_T false holds = absurd holds

-- What is tested to be less is less.
pub less : (r : Ordering) → is_lt r ≡ true → r ≡ Less
less Less lt = refl
less Equal lt = absurd (cc lt)
less Greater lt = absurd (cc lt)

-- The entries of a map are in the order of their keys.
pub entries_rise : {K X : Type 0} {R : K → K → Ordering} (m : FinMap R X) → is_sorted R (entries m) ≡ true
entries_rise m = of_T _ (entries_sorted m)

module _ {K X : Type 0} (R : K → K → Ordering) where
  below_by : (k : K) (es : List (K × X)) → below_all R k es ≡ true → AllByRecursion (λ q. R k q ≡ Less) (map (λ e. e.0) es)
  below_by k [] below = tt
  below_by k (e ∷ es) below =
      let both = and_parts (is_lt (R k e.0)) (below_all R k es) below in
      (less (R k e.0) both.0, below_by k es both.1)

  -- So their keys rise.
  pub sorted_keys : (es : List (K × X)) → is_sorted R es ≡ true → IsStrictlySortedBy R (map (λ e. e.0) es)
  unfolding IsStrictlySortedBy
  sorted_keys [] rises = tt
  sorted_keys (e ∷ es) rises =
      let both = and_parts (below_all R e.0 es) (is_sorted R es) rises in
      (below_by e.0 es both.0, sorted_keys es both.1)

  below_some : (p : K × X → Bool) (k : K) (es : List (K × X)) → below_all R k es ≡ true → below_all R k (filter p es) ≡ true
  below_some p k [] below = refl
  below_some p k (e ∷ es) below =
      let both = and_parts (is_lt (R k e.0)) (below_all R k es) below in
      by (p e) both.0 (below_some p k es both.1)
    where
      by : (b : Bool) → is_lt (R k e.0) ≡ true → below_all R k (filter p es) ≡ true → below_all R k (cond b (e ∷ filter p es) (filter p es)) ≡ true
      by true here rest = and_from _ _ here rest
      by false here rest = rest

  -- What a test leaves is in order.
  pub sorted_some : (p : K × X → Bool) (es : List (K × X)) → is_sorted R es ≡ true → is_sorted R (filter p es) ≡ true
  sorted_some p [] rises = refl
  sorted_some p (e ∷ es) rises =
      let both = and_parts (below_all R e.0 es) (is_sorted R es) rises in
      by (p e) (below_some p e.0 es both.0) (sorted_some p es both.1)
    where
      by : (b : Bool) → below_all R e.0 (filter p es) ≡ true → is_sorted R (filter p es) ≡ true → is_sorted R (cond b (e ∷ filter p es) (filter p es)) ≡ true
      by true here rest = and_from _ _ here rest
      by false here rest = rest

-- The keys of some entries of a map rise.
pub some_rise : {X : Type 0} (m : FinMap key_cmp X) (p : List (List ℕ) × X → Bool) (list : List (List (List ℕ))) → list ≡ map (λ e. e.0) (filter p (entries m))
    → IsRising list
some_rise {X} m p list is = subst IsRising (sym is) (sorted_keys key_cmp (filter p (entries m)) (sorted_some key_cmp p (entries m) (entries_rise m)))

-- So do all of them.
pub keys_rise : {X : Type 0} (m : FinMap key_cmp X) (list : List (List (List ℕ))) → list ≡ keys m → IsRising list
keys_rise {X} m list is = subst IsRising (sym is) (sorted_keys key_cmp (entries m) (entries_rise m))
