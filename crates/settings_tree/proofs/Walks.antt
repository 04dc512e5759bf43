-- A walk from entry to entry gives the entries of a map in order.
use Rattle.std.proofs.Common.{arith, ◌≡◌, ◌&&◌, ◌<◌, ℕ, suc, List, [], ◌∷◌, ◌++◌, length, append_assoc, append-nil, Option}
use Rattle.std.proofs.Common.{Some, None, Bool, true, false, cond, IsSome, T, filter, refl, sym, ◌∙◌, ap, subst}
use Rattle.std.specs.declared.cmp.Ordering.{Ordering}
use Rattle.std.specs.declared.cmp.Ordering.TheVariants.{Less, Equal, Greater}
use Rattle.std.specs.Ordering.{eq_by_cmp, is_eq, is_lt, is_gt, ordering_reverse}
use Rattle.std.specs.Cmp.{IsTotalOrder}
use Rattle.std.specs.FinMap.{FinMap, IsAntisymmetric, find, is_sorted, entries, entries_sorted, get, get-entries}
use Rattle.std.specs.FinMap.Entries.{below_all, is_sorted-where_key, find-where_key}
use Rattle.std.proofs.lemmas.Bool.{and_parts, and_from, cond-true, cond-false, and_right}
use Rattle.std.proofs.Math.Bool.{and-true}
use Rattle.std.proofs.lemmas.Cmp.{tied_itself}
use Rattle.key_names.specs.Order.{key_cmp, key_total, key_cmp-IsAntisymmetric}
use Rattle.key_names.specs.Key.{is_prefix}
use Rattle.settings_maps.specs.Maps.{IsPast, IsLeastAfter, HasNoneAfter}
use Rattle.settings_tree.specs.Walks.{is_past, entries_past, entries_below, entries_below_past, IsLeastBelow, HasNoneBelow}

less : (r : Ordering) → is_lt r ≡ true → r ≡ Less
less Less lt = refl
less Equal lt = absurd (grind arith)
less Greater lt = absurd (grind arith)

of_T : (b : Bool) → T b → b ≡ true
of_T true holds = refl
of_T false holds = absurd holds

-- The two forms of being past a key.
pub past_test : {K : Type 0} (R : K → K → Ordering) (after : Option K) (k : K) → IsPast R after k → is_past R after k ≡ true
past_test R None k past = refl
past_test R (Some a) k past = ap is_lt past

pub past_fact : {K : Type 0} (R : K → K → Ordering) (after : Option K) (k : K) → is_past R after k ≡ true → IsPast R after k
past_fact R None k past = tt
past_fact R (Some a) k past = less (R a k) past

-- What is above a key that is past another is past that one too.
pub past_trans : {K : Type 0} {R : K → K → Ordering} → IsTotalOrder R → (after : Option K) (k z : K) → IsPast R after k → R k z ≡ Less → IsPast R after z
past_trans o None k z past l = tt
past_trans o (Some a) k z past l = o.trans a k z past l

module _ {K X : Type 0} {R : K → K → Ordering} (o : IsTotalOrder R) (same : IsAntisymmetric R) where
  -- The tests p and q agree above k, where q is p above k alone.
  record Splits (es : List (K × X)) (p q : K → Bool) (k : K) : Type 0 where
    at : p k ≡ true
    least : (z : K) → p z ≡ true → IsSome (find R z es) → is_gt (R k z) ≡ false
    above : (z : K) → R k z ≡ Less → q z ≡ p z
    not_above : (z : K) → is_lt (R k z) ≡ false → q z ≡ false

  all_above : (es : List (K × X)) (p q : K → Bool) (k : K) → ((z : K) → R k z ≡ Less → q z ≡ p z) → below_all R k es ≡ true
      → filter (λ e. p e.0) es ≡ filter (λ e. q e.0) es
  all_above [] p q k agree below = refl
  all_above (e ∷ es) p q k agree below =
      let both = and_parts (is_lt (R k e.0)) (below_all R k es) below in
      ap (λ b. cond b (e ∷ filter (λ e. p e.0) es) (filter (λ e. p e.0) es)) (sym (agree e.0 (less _ both.0)))
      ∙ ap (λ (l : List (K × X)). cond (q e.0) (e ∷ l) l) (all_above es p q k agree both.1)

  none_above : (es : List (K × X)) (k : K) → below_all R k es ≡ true → find R k es ≡ None
  none_above [] k below = refl
  none_above (e ∷ es) k below =
      let both = and_parts (is_lt (R k e.0)) (below_all R k es) below in
      cond-false _ _ _ (ap is_eq (less (R k e.0) both.0)) ∙ none_above es k both.1

  below_trans : (k x : K) (es : List (K × X)) → R k x ≡ Less → below_all R x es ≡ true → below_all R k es ≡ true
  below_trans k x [] l below = refl
  below_trans k x (e ∷ es) l below =
      let both = and_parts (is_lt (R x e.0)) (below_all R x es) below in
      and_from _ _ (ap is_lt (o.trans k x e.0 l (less _ both.0))) (below_trans k x es l both.1)

  -- The first entry that passes p, and those that pass q.
  first_split : (es : List (K × X)) (p q : K → Bool) (k : K) (x : X) → is_sorted R es ≡ true → find R k es ≡ Some x → Splits es p q k
      → filter (λ e. p e.0) es ≡ (k, x) ∷ filter (λ e. q e.0) es
  first_split [] p q k x rises has splits = absurd (cc has)
  first_split (e ∷ es) p q k x rises has splits = by (R k e.0) refl (first_split es p q k x) where
    sorted : (below_all R e.0 es ≡ true) × (is_sorted R es ≡ true)
    sorted = and_parts (below_all R e.0 es) (is_sorted R es) rises

    same_Some : (a b : X) → Some a ≡ Some b → a ≡ b
    same_Some a b e = cc e

    by : (r : Ordering) → R k e.0 ≡ r → (is_sorted R es ≡ true → find R k es ≡ Some x → Splits es p q k
        → filter (λ e. p e.0) es ≡ (k, x) ∷ filter (λ e. q e.0) es)
        → filter (λ e. p e.0) (e ∷ es) ≡ (k, x) ∷ filter (λ e. q e.0) (e ∷ es)
    by Less is rest = absurd (cc (has, cond-false _ (Some e.1) (find R k es) (ap is_eq is) ∙ none_above es k (below_trans k e.0 es is sorted.0)))
    by Equal is rest =
        let one : k ≡ e.0 = same k e.0 is in
        let value : x ≡ e.1 = same_Some x e.1 (sym has ∙ cond-true _ (Some e.1) (find R k es) (ap is_eq is)) in
        cond-true _ _ _ (ap p (sym one) ∙ splits.at) ∙ ap (λ (l : List (K × X)). e ∷ l)
        (all_above es p q k splits.above (subst (λ (z : K). below_all R z es ≡ true) (sym one) sorted.0))
        ∙ ap (λ (l : List (K × X)). e ∷ l) (sym (cond-false _ (e ∷ filter (λ e. q e.0) es) _ (splits.not_above e.0 (ap is_lt is))))
        ∙ ap (λ (f : K × X). f ∷ filter (λ e. q e.0) (e ∷ es)) (sym (pair one value))
      where
        pair : {a b : K} {c d : X} → a ≡ b → c ≡ d → ◌≡◌ {A = K × X} (a, c) (b, d)
        pair {b = b} {c = c} p q = ap (λ (z : K). (z, c)) p ∙ ap (λ (y : X). (b, y)) q
    by Greater is rest =
        cond-false _ _ _ (low (p e.0) refl) ∙ rest sorted.1 (sym (cond-false _ (Some e.1) (find R k es) (ap is_eq is)) ∙ has) tail
        ∙ ap (λ (l : List (K × X)). (k, x) ∷ l) (sym (cond-false _ (e ∷ filter (λ e. q e.0) es) _ (splits.not_above e.0 (ap is_lt is))))
      where
        there : (b : Bool) (z : Option X) → IsSome z → IsSome (cond b (Some e.1) z)
        there true z has = refl
        there false z has = has

        low : (b : Bool) → p e.0 ≡ b → b ≡ false
        low true passes = absurd (cc (
          ap is_gt is,
          splits.least e.0 passes
              (subst IsSome (sym (cond-true _ (Some e.1) (find R e.0 es) (ap is_eq (tied_itself o e.0)))) refl),
        ))
        low false passes = refl

        tail : Splits es p q k
        tail = record {
          at = splits.at;
          least = λ z passes has. splits.least z passes (there (eq_by_cmp R z e.0) _ has);
          above = splits.above;
          not_above =
              splits.not_above;
        }

  -- Where nothing passes, nothing is left.
  none_pass : (es : List (K × X)) (p : K → Bool) → ((z : K) → p z ≡ true → find R z es ≡ None) → filter (λ e. p e.0) es ≡ []
  none_pass [] p none = refl
  none_pass (e ∷ es) p none = cond-false _ _ _ (low (p e.0) refl) ∙ none_pass es p (λ z passes. later z (eq_by_cmp R z e.0) (none z passes)) where
    low : (b : Bool) → p e.0 ≡ b → b ≡ false
    low true passes = absurd (cc (none e.0 passes, cond-true _ (Some e.1) (find R e.0 es) (ap is_eq (tied_itself o e.0))))
    low false passes = refl

    later : (z : K) (b : Bool) → cond b (Some e.1) (find R z es) ≡ None → find R z es ≡ None
    later z true is = absurd (cc is)
    later z false is = is

  split_entries : (m : FinMap R X) (p q : K → Bool) (k : K) (x : X) → get m k ≡ Some x → p k ≡ true
      → ((z : K) → p z ≡ true → IsSome (get m z) → is_gt (R k z) ≡ false) → ((z : K) → R k z ≡ Less → q z ≡ p z)
      → ((z : K) → is_lt (R k z) ≡ false → q z ≡ false)
      → filter (λ e. p e.0) (entries m) ≡ (k, x) ∷ filter (λ e. q e.0) (entries m)
  split_entries m p q k x has at least above not_above = first_split (entries m) p q k x (of_T _ (entries_sorted m)) (sym (get-entries m k) ∙ has)
      (record { at = at; least = λ z passes some. least z passes (subst IsSome (sym (get-entries m z)) some); above = above; not_above = not_above })

  -- A walk begins with all entries.
  pub walk_start : (m : FinMap R X) → entries_past m None ≡ entries m
  walk_start m = all (entries m) where
    all : (es : List (K × X)) → filter (λ e. true) es ≡ es
    all [] = refl
    all (e ∷ es) = ap (λ (l : List (K × X)). e ∷ l) (all es)

  -- Each step of a walk gives the next entry.
  pub walk_next : (m : FinMap R X) (after : Option K) (k : K) (x : X) → IsLeastAfter m after k x → entries_past m after ≡ (k, x) ∷ entries_past m (Some k)
  walk_next m after k x next = split_entries m (is_past R after) (is_past R (Some k)) k x next.stands (past_test R after k next.past)
      (λ z past has. next.least z (past_fact R after z past) has) (λ z l. ap is_lt l ∙ sym (past_test R after z (past_trans o after k z next.past l)))
      (λ z not. not)

  -- A walk ends with no entry left.
  pub walk_end : (m : FinMap R X) (after : Option K) → HasNoneAfter m after → entries_past m after ≡ []
  walk_end m after end = none_pass (entries m) (is_past R after) (λ z past. sym (get-entries m z) ∙ end.none z (past_fact R after z past))

  some_none : (o : Option X) → IsSome o → o ≡ None → ⊥
  some_none o some none = cc (some, none)

  -- The first that passes a test passes it.
  head_passes : (p : K × X → Bool) (es : List (K × X)) (e : K × X) (more : List (K × X)) → filter p es ≡ e ∷ more → p e ≡ true
  head_passes p [] e more is = absurd (cc is)
  head_passes p (f ∷ es) e more is = by (p f) refl is (head_passes p es e more) where
    by : (b : Bool) → p f ≡ b → cond b (f ∷ filter p es) (filter p es) ≡ e ∷ more → (filter p es ≡ e ∷ more → p e ≡ true) → p e ≡ true
    by true passes is rest = let one : f ≡ e = cc is in ap p (sym one) ∙ passes
    by false passes is rest = rest is

  past_sorted : (m : FinMap R X) (after : Option K) → is_sorted R (entries_past m after) ≡ true
  past_sorted m after = of_T _ (is_sorted-where_key R (is_past R after) (entries m) (entries_sorted m))

  find_past : (m : FinMap R X) (after : Option K) (q : K) → IsPast R after q → find R q (entries_past m after) ≡ get m q
  find_past m after q past = find-where_key R (is_past R after) q (alike after) (entries m) ∙ cond-true _ _ _ (past_test R after q past) ∙ sym (get-entries m q) where
    alike : (o : Option K) (z : K) → R q z ≡ Equal → is_past R o z ≡ is_past R o q
    alike o z tied = ap (is_past R o) (sym (same q z tied))

  -- The first of the entries past a key is the least, and the others are those past it.
  pub first_past : (m : FinMap R X) (after : Option K) (k : K) (x : X) (more : List (K × X)) → entries_past m after ≡ (k, x) ∷ more
      → IsLeastAfter m after k x × (more ≡ entries_past m (Some k))
  first_past m after k x more is = (least, ap tail (sym is ∙ walk_next m after k x least)) where
    tail : List (K × X) → List (K × X)
    tail [] = []
    tail (e ∷ es) = es

    passes : IsPast R after k
    passes = past_fact R after k (head_passes (λ e. is_past R after e.0) (entries m) (k, x) more is)

    sorted : below_all R k more ≡ true
    sorted = (and_parts (below_all R k more) (is_sorted R more) (subst (λ es. is_sorted R es ≡ true) is (past_sorted m after))).0

    low : (q : K) → IsPast R after q → IsSome (get m q) → (r : Ordering) → R k q ≡ r → is_gt r ≡ false
    low q past has Less e = refl
    low q past has Equal e = refl
    low q past has Greater e = absurd (some_none (find R q ((k, x) ∷ more)) (subst IsSome (sym (find_past m after q past) ∙ ap (find R q) is) has)
        (cond-false (eq_by_cmp R q k) (Some x) (find R q more) (ap is_eq less_k) ∙ none_above more q (below_trans q k more less_k sorted)))
      where
        less_k : R q k ≡ Less
        less_k = o.antisymm q k ∙ ap ordering_reverse e

    least : IsLeastAfter m after k x
    least = record {
      stands = sym (find_past m after k passes) ∙ ap (find R k) is ∙ cond-true _ _ _ (ap is_eq (tied_itself o k));
      past = passes;
      least = λ q past has. low q past has (R k q) refl;
    }

  -- Where there is none, nothing is past the key.
  pub none_past : (m : FinMap R X) (after : Option K) → entries_past m after ≡ [] → HasNoneAfter m after
  none_past m after is = record { none = λ q past. sym (find_past m after q past) ∙ ap (find R q) is }

  -- So the number of entries that are left falls.
  pub walk_falls : (m : FinMap R X) (after : Option K) (k : K) (x : X) → IsLeastAfter m after k x
      → length (entries_past m (Some k)) < length (entries_past m after)
  walk_falls m after k x next = let one : length (entries_past m after) ≡ suc (length (entries_past m (Some k))) = ap length (walk_next m after k x next) in
      omega arith

module _ {X : Type 0} where
  -- Each step of a walk below a prefix gives the next of the entries whose key begins with it.
  pub walk_below_next : (m : FinMap key_cmp X) (prefix : List (List ℕ)) (after : Option (List (List ℕ))) (k : List (List ℕ)) (x : X)
      → IsLeastBelow m prefix after k x
      → entries_below_past m prefix after ≡ (k, x) ∷ entries_below_past m prefix (Some k)
  walk_below_next m prefix after k x next = split_entries key_total key_cmp-IsAntisymmetric m (λ z. is_prefix prefix z && is_past key_cmp after z)
      (λ z. is_prefix prefix z && is_past key_cmp (Some k) z) k x next.stands
      (and_from _ _ next.begins (past_test key_cmp after k next.past))
      (λ z passes has. next.least z (past_fact key_cmp after z ((and_parts (is_prefix prefix z) _ passes).1)) ((and_parts (is_prefix prefix z) _ passes).0) has)
      (λ z l. ap (λ b. is_prefix prefix z && b) (ap is_lt l ∙ sym (past_test key_cmp after z (past_trans key_total after k z next.past l))))
      (λ z not. and_right _ _ not)

  -- So the number of entries that are left falls.
  pub walk_below_falls : (m : FinMap key_cmp X) (prefix : List (List ℕ)) (after : Option (List (List ℕ))) (k : List (List ℕ)) (x : X)
      → IsLeastBelow m prefix after k x
      → length (entries_below_past m prefix (Some k)) < length (entries_below_past m prefix after)
  walk_below_falls m prefix after k x next = let one : length (entries_below_past m prefix after) ≡ suc (length (entries_below_past m prefix (Some k))) =
      ap length (walk_below_next m prefix after k x next) in omega arith

-- A list of what a walk has given, with what is left.
pub listed_more : {E : Type 0} (all done now left rest : List E) (e : E) → done ++ left ≡ all → left ≡ e ∷ rest → now ≡ done ++ e ∷ [] → now ++ rest ≡ all
listed_more all done now left rest e whole next pushed = ap (λ (l : List _). l ++ rest) pushed ∙ append_assoc done (e ∷ []) rest
    ∙ ap (λ (l : List _). done ++ l) (sym next) ∙ whole

pub listed_all : {E : Type 0} (all done left : List E) → done ++ left ≡ all → left ≡ [] → done ≡ all
listed_all all done left whole none = sym (append-nil done) ∙ ap (λ (l : List _). done ++ l) (sym none) ∙ whole
