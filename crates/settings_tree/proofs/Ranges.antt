-- The entries from a prefix on begin with those below it.
use Rattle.std.proofs.Common.{arith, ◌≡◌, ℕ, List, [], ◌∷◌, ◌++◌, append_assoc, append-nil, Bool, true, false, cond, filter, refl, sym, ◌∙◌, ap, subst}
use Rattle.std.specs.declared.cmp.Ordering.{Ordering}
use Rattle.std.specs.declared.cmp.Ordering.TheVariants.{Less, Equal, Greater}
use Rattle.std.specs.Ordering.{is_gt, is_le, is_lt}
use Rattle.std.specs.BTreeMap.Range.{IsLeBy}
use Rattle.std.specs.FinMap.{FinMap, is_sorted, entries}
use Rattle.std.specs.FinMap.Entries.{below_all}
use Rattle.std.specs.List.{AllByRecursion}
use Rattle.std.proofs.lemmas.Bool.{and_parts, cond-true, cond-false, both_ways}
use Rattle.key_names.specs.Order.{key_cmp}
use Rattle.key_names.specs.Key.{is_prefix}
use Rattle.settings_tree.specs.Walks.{entries_below}
use Rattle.settings_tree.proofs.Below.{not_gt, prefix_le}
use Rattle.settings_tree.proofs.KeyOrder.{between}
use Rattle.settings_tree.proofs.Rising.{entries_rise, sorted_some, less}

-- A list of segments.
abbrev Key : Type 0
Key = List (List ℕ)

le_gt : (r : Ordering) → is_le r ≡ true → is_gt r ≡ false
le_gt Less le = refl
le_gt Equal le = refl
le_gt Greater le = absurd (grind arith)

gt_le : (r : Ordering) → is_gt r ≡ false → is_le r ≡ true
gt_le Less gt = refl
gt_le Equal gt = refl
gt_le Greater gt = absurd (grind arith)

lacks : (a b : Bool) → (a ≡ true → b ≡ true) → b ≡ false → a ≡ false
lacks true b follows not = absurd (both_ways b not (follows refl))
lacks false b follows not = refl

module _ {X : Type 0} (p : Key) where
  -- The entries from the prefix on.
  abbrev from_prefix : List (Key × X) → List (Key × X)
  from_prefix es = filter (λ e. is_le (key_cmp p e.0)) es

  -- Those that begin with it.
  abbrev begun : List (Key × X) → List (Key × X)
  begun es = filter (λ e. is_prefix p e.0) es

  all_from : (es : List (Key × X)) → AllByRecursion (λ e. IsLeBy key_cmp p e.0) (from_prefix es)
  all_from [] = tt
  all_from (e ∷ es) = by _ refl (all_from es) where
    by : (b : Bool) → is_le (key_cmp p e.0) ≡ b → AllByRecursion (λ e. IsLeBy key_cmp p e.0) (from_prefix es)
        → AllByRecursion (λ e. IsLeBy key_cmp p e.0) (cond b (e ∷ from_prefix es) (from_prefix es))
    by true passes rest = (le_gt _ passes, rest)
    by false passes rest = rest

  -- None of these is lost.
  begun_from : (es : List (Key × X)) → begun (from_prefix es) ≡ begun es
  begun_from [] = refl
  begun_from (e ∷ es) = by _ refl (begun_from es) where
    by : (b : Bool) → is_le (key_cmp p e.0) ≡ b → begun (from_prefix es) ≡ begun es
        → begun (cond b (e ∷ from_prefix es) (from_prefix es)) ≡ begun (e ∷ es)
    by true passes rest = ap (λ (l : List (Key × X)). cond (is_prefix p e.0) (e ∷ l) l) rest
    by false passes rest = rest ∙ sym (cond-false _ _ _ (lacks (is_prefix p e.0) _ (λ begins. gt_le _ (prefix_le p e.0 begins)) passes))

  -- Past the last of them there is none.
  none_later : (k : Key) (es : List (Key × X)) → is_prefix p k ≡ false → IsLeBy key_cmp p k → below_all key_cmp k es ≡ true → begun es ≡ []
  none_later k [] past low above = refl
  none_later k (e ∷ es) past low above =
      let both = and_parts (is_lt (key_cmp k e.0)) (below_all key_cmp k es) above in
      cond-false _ _ _ (lacks (is_prefix p e.0) _ (λ begins. between p k e.0 begins low (not_gt _ (less _ both.0))) past) ∙ none_later k es past low both.1

module _ {X : Type 0} (m : FinMap key_cmp X) (p : Key) where
  -- Of the entries below the prefix these are passed, and the others are among those that are left, all of which are from the prefix on.
  pub record IsLeft (passed left : List (Key × X)) : Type 0 where
    pub whole : passed ++ begun p left ≡ entries_below m p
    pub rises : is_sorted key_cmp left ≡ true
    pub from : AllByRecursion (λ e. IsLeBy key_cmp p e.0) left

  pub left_first : (passed left : List (Key × X)) → passed ≡ [] → left ≡ from_prefix p (entries m) → IsLeft passed left
  left_first passed left none is = subst (λ (l : List (Key × X)). IsLeft l left) (sym none) (subst (IsLeft []) (sym is) (record {
    whole = begun_from p (entries m);
    rises = sorted_some key_cmp _ (entries m) (entries_rise m);
    from = all_from p (entries m);
  }))

  -- The next one is passed.
  pub left_more : (passed now left more : List (Key × X)) (k : Key) (x : X) → IsLeft passed left → left ≡ (k, x) ∷ more → is_prefix p k ≡ true
      → now ≡ passed ++ (k, x) ∷ [] → IsLeft now more
  left_more passed now left more k x is next begins pushed =
      let all : IsLeft passed ((k, x) ∷ more) = subst (IsLeft passed) next is in
      record {
        whole = ap (λ (l : List (Key × X)). l ++ begun p more) pushed ∙ append_assoc passed ((k, x) ∷ []) (begun p more)
            ∙ sym (ap (λ (l : List (Key × X)). passed ++ l) (cond-true _ _ _ begins)) ∙ all.whole;
        rises = (and_parts (below_all key_cmp k more) (is_sorted key_cmp more) all.rises).1;
        from = all.from.1;
      }

  -- The next one is past them, or there is none: all are passed.
  pub left_past : (passed left more : List (Key × X)) (k : Key) (x : X) → IsLeft passed left → left ≡ (k, x) ∷ more → is_prefix p k ≡ false
      → passed ≡ entries_below m p
  left_past passed left more k x is next past =
      let all : IsLeft passed ((k, x) ∷ more) = subst (IsLeft passed) next is in
      sym (append-nil passed)
      ∙ sym (ap (λ (l : List (Key × X)). passed ++ l) (cond-false _ _ _ past
      ∙ none_later p k more past all.from.0 ((and_parts (below_all key_cmp k more) (is_sorted key_cmp more) all.rises).0)))
      ∙ all.whole

  pub left_none : (passed left : List (Key × X)) → IsLeft passed left → left ≡ [] → passed ≡ entries_below m p
  left_none passed left is none = sym (append-nil passed) ∙ sym (ap (λ (l : List (Key × X)). passed ++ begun p l) none) ∙ is.whole
