-- Tests of the keys of a map.
use Rattle.std.proofs.Common.{◌≡◌, ◌||◌, List, [], ◌∷◌, Option, Some, Bool, true, false, cond, map, IsSome, refl, sym, ◌∙◌, ap, subst}
use Rattle.std.specs.declared.cmp.Ordering.{Ordering}
use Rattle.std.specs.List.{list_any}
use Rattle.std.specs.Ordering.{eq_by_cmp, is_eq}
use Rattle.std.specs.Cmp.{IsTotalOrder}
use Rattle.std.specs.FinMap.{FinMap, IsAntisymmetric, entries, find, get, get-entries, keys}
use Rattle.std.proofs.lemmas.Bool.{both_ways, cond-true, false_from_ne_true, or_left, or_right}
use Rattle.std.proofs.lemmas.Cmp.{tied_itself}
use Rattle.settings_maps.proofs.NestedMaps.{tied_by}

module _ {K X : Type 0} {R : K → K → Ordering} (o : IsTotalOrder R) (same : IsAntisymmetric R) where
  any_of : (es : List (K × X)) (p : K → Bool) (k : K) → IsSome (find R k es) → p k ≡ true → list_any p (map (λ e. e.0) es) ≡ true
  any_of [] p k has passes = absurd (cc has)
  any_of (e ∷ es) p k has passes = by (eq_by_cmp R k e.0) refl has (λ h. any_of es p k h passes) where
    by : (b : Bool) → eq_by_cmp R k e.0 ≡ b → IsSome (cond b (Some e.1) (find R k es)) → (IsSome (find R k es) → list_any p (map (λ e. e.0) es) ≡ true)
        → (p e.0 || list_any p (map (λ e. e.0) es)) ≡ true
    by true is here rest = or_left _ _ (ap p (sym (same k e.0 (tied_by _ is))) ∙ passes)
    by false is here rest = or_right _ _ (rest here)

  none_of : (es : List (K × X)) (p : K → Bool) → ((k : K) → IsSome (find R k es) → p k ≡ false) → list_any p (map (λ e. e.0) es) ≡ false
  none_of [] p none = refl
  none_of (e ∷ es) p none = ap (λ b. b || list_any p (map (λ e. e.0) es)) (none e.0 here)
      ∙ none_of es p (λ k has. none k (later (eq_by_cmp R k e.0) (find R k es) has)) where
        here : IsSome (find R e.0 (e ∷ es))
        here = subst IsSome (sym (cond-true _ (Some e.1) (find R e.0 es) (ap is_eq (tied_itself o e.0)))) refl

        later : (b : Bool) (z : Option X) → IsSome z → IsSome (cond b (Some e.1) z)
        later true z has = refl
        later false z has = has

  -- Some key passes where one that is in the map does.
  pub stands_any : (m : FinMap R X) (p : K → Bool) (k : K) → IsSome (get m k) → p k ≡ true → list_any p (keys m) ≡ true
  stands_any m p k has passes = any_of (entries m) p k (subst IsSome (get-entries m k) has) passes

  -- No key passes where none that is in the map does.
  pub stands_none : (m : FinMap R X) (p : K → Bool) → ((k : K) → IsSome (get m k) → p k ≡ false) → list_any p (keys m) ≡ false
  stands_none m p none = none_of (entries m) p (λ k has. none k (subst IsSome (sym (get-entries m k)) has))

  -- Where no key passes, none that is in the map does.
  pub fails_at : (m : FinMap R X) (p : K → Bool) (k : K) → list_any p (keys m) ≡ false → IsSome (get m k) → p k ≡ false
  fails_at m p k none has = false_from_ne_true (p k) (λ passes. both_ways _ none (stands_any m p k has passes))
