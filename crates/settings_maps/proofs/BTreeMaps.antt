-- A `BTreeMap` seen as a finite map.
use Rattle.std.proofs.Common.{arith, ℕ, ◌<◌, length, ◌++◌, IsSome, is_some, ◌∷◌, ◌≡◌, List, []}
use Rattle.std.proofs.Common.{Option, Some, None, Bool, true, false, cond, T, filter, ◌&&◌, refl, sym, ◌∙◌, ap, subst}
use Rattle.std.specs.Prelude.{◌↔◌, ◌==◌, IfSome, IfNone}
use Rattle.std.specs.BTreeMap as tree
use Rattle.std.specs.declared.cmp.Ordering.{Ordering}
use Rattle.std.specs.declared.cmp.Ordering.TheVariants.{Less, Equal, Greater}
use Rattle.std.specs.Ordering.{eq_by_cmp, is_lt, is_gt, ordering_reverse}
use Rattle.std.specs.Cmp.{IsTotalOrder, eq_by_cmp_equiv}
use Rattle.std.specs.FinMap.{FinMap, IsAntisymmetric, empty, get, insert, remove, is_sorted, entries, entries_sorted}
use Rattle.std.specs.FinMap.{from_entries, len-empty, get-empty, get-insert, get-remove, get-from_entries, get-entries, same_map}
use Rattle.std.specs.FinMap.Entries.{below_all, same_entries}
use Rattle.std.specs.List.{AllByRecursion}
use Rattle.std.specs.List.Sorted.{IsStrictlySortedBy}
use Rattle.std.specs.Map.{keys_of}
use Rattle.std.proofs.Math.Bool.{and-true}
use Rattle.std.proofs.lemmas.Bool.{and_from}
use Rattle.std.proofs.lemmas.Map.Keys.{sorted_head, sorted_tail}
use Rattle.std.specs.BTreeMap.Range.{IsRangeOf}
use Rattle.std.specs.declared.ops.Bound.TheVariants.{Included, Excluded, Unbounded}
use Rattle.key_names.specs.Order.{key_total, key_cmp-IsAntisymmetric, bytes_total, bytes_cmp-IsAntisymmetric}
use Rattle.settings_maps.proofs.NestedMaps.{insert-present, not_empty}
use Rattle.settings_maps.specs.Maps.{IsLeastAfter, HasNoneAfter, IsLeastFrom, HasNoneFrom, IsLastBefore, HasNoneBefore, is_empty}

not_above : (a b : Ordering) → b ≡ ordering_reverse a → is_lt a ≡ false → is_gt b ≡ false
not_above Less b e h = absurd (grind arith)
not_above Equal b e h = ap is_gt e
not_above Greater b e h = ap is_gt e

-- A map is empty where it has no entry.
pub seen-empty : {K X : Type 0} {R : K → K → Ordering} (m : tree.BTreeMap K X) → m.entries ≡ [] → from_entries {R = R} m.entries ≡ empty
seen-empty {K} {X} {R} m none = ap (λ (es : List (K × X)). from_entries {R = R} es) none

-- A map that stays as it was.
pub seen-same : {K X : Type 0} {R : K → K → Ordering} (m n : tree.BTreeMap K X) (v : FinMap R X) → from_entries m.entries ≡ v → tree.IsUnchanged m n
    → from_entries n.entries ≡ v
seen-same {K} {X} {R} m n v is same = ap (λ (es : List (K × X)). from_entries {R = R} es) same ∙ is

-- What two clauses say of a value that is there.
pub both_some : {A : Type 0} (r : Option A) (P Q S : A → Type 0) → ((a : A) → P a → Q a → S a) → IfSome r P → IfSome r Q → IfSome r S
both_some None P Q S join p q = tt
both_some (Some a) P Q S join p q = join a p q

none_left : {E : Type 0} (es : List E) → ((0 < length es) → ⊥) → es ≡ []
none_left [] empty = refl
none_left (e ∷ es) empty = absurd (empty (omega arith))

module _ {K X : Type 0} {R : K → K → Ordering} (o : IsTotalOrder R) where
  get-seen : (m : tree.BTreeMap K X) (q : K) → get (from_entries {R = R} m.entries) q ≡ tree.get R m q
  get-seen m q = get-from_entries o m.entries q

  at : (m : tree.BTreeMap K X) (v : FinMap R X) (q : K) → from_entries m.entries ≡ v → get v q ≡ tree.get R m q
  at m v q is = sym (ap (λ (w : FinMap R X). get w q) is) ∙ get-seen m q

  -- What the tree finds is what is in the map.
  pub seen-get : (m : tree.BTreeMap K X) (v : FinMap R X) (q : K) (r : Option X) → from_entries m.entries ≡ v → r ≡ tree.get R m q → r ≡ get v q
  seen-get m v q r is found = found ∙ sym (at m v q is)

  pub seen-absent : (m : tree.BTreeMap K X) (v : FinMap R X) (q : K) → from_entries m.entries ≡ v → tree.get R m q ≡ None → get v q ≡ None
  seen-absent m v q is found = at m v q is ∙ found

  -- A key that the tree lacks.
  pub seen-lacks : (m : tree.BTreeMap K X) (v : FinMap R X) (q : K) (b : Bool) → from_entries m.entries ≡ v → b ≡ is_some (tree.get R m q) → b ≡ false
      → get v q ≡ None
  seen-lacks m v q b is has lacks = at m v q is ∙ missing (tree.get R m q) (sym has ∙ lacks) where
    missing : (r : Option X) → is_some r ≡ false → r ≡ None
    missing None e = refl
    missing (Some x) e = absurd (grind arith)

  empty_by : (es : List (K × X)) (b : Bool) → (b ≡ true ↔ (length es ≡ 0)) → b ≡ is_empty (from_entries {R = R} es)
  empty_by [] b is = is.1 refl ∙ sym (ap (λ (n : ℕ). n == 0) (len-empty R X))
  empty_by (e ∷ es) true is = absurd (omega (arith, is.0 refl))
  empty_by (e ∷ es) false is = sym (not_empty (from_entries (e ∷ es)) e.0 e.1
      (get-insert o (from_entries es) e.0 e.1 e.0 ∙ ap (λ b. cond b (Some e.1) (get (from_entries {R = R} es) e.0)) ((eq_by_cmp_equiv o).refl e.0)))

  -- The test for no entry is the test for no key.
  pub seen-is_empty : (m : tree.BTreeMap K X) (v : FinMap R X) (b : Bool) → from_entries m.entries ≡ v → (b ≡ true ↔ (length m.entries ≡ 0)) → b ≡ is_empty v
  seen-is_empty m v b is test = empty_by m.entries b test ∙ ap is_empty is

  -- The first entry above a key.
  pub least_above : (m : tree.BTreeMap K X) (a : K) (r t : List (K × X)) (e : K × X) → IsRangeOf R (Excluded a) Unbounded m r → r ≡ e ∷ t
      → IsLeastAfter {R = R} (from_entries m.entries) (Some a) e.0 e.1
  least_above m a r t e range first =
      let whole : IsRangeOf R (Excluded a) Unbounded m (e ∷ t) = subst (IsRangeOf R (Excluded a) Unbounded m) first range in
      record {
        stands = get-seen m e.0 ∙ whole.1.1;
        past = whole.1.0.0;
        least = λ q above has. whole.2 q (above, tt) (subst IsSome (get-seen m q) has);
      }

  pub none_above : (m : tree.BTreeMap K X) (a : K) (r : List (K × X)) → IsRangeOf R (Excluded a) Unbounded m r → r ≡ []
      → HasNoneAfter {R = R} (from_entries m.entries) (Some a)
  none_above m a r range none = record { none = λ q above. get-seen m q ∙ range.5 none q (above, tt) }

  -- The first entry from a key on.
  pub least_from : (m : tree.BTreeMap K X) (a : K) (r t : List (K × X)) (e : K × X) → IsRangeOf R (Included a) Unbounded m r → r ≡ e ∷ t
      → IsLeastFrom {R = R} (from_entries m.entries) a e.0 e.1
  least_from m a r t e range first =
      let whole : IsRangeOf R (Included a) Unbounded m (e ∷ t) = subst (IsRangeOf R (Included a) Unbounded m) first range in
      record {
        stands = get-seen m e.0 ∙ whole.1.1;
        from = whole.1.0.0;
        least = λ q above has. whole.2 q (above, tt) (subst IsSome (get-seen m q) has);
      }

  pub none_from : (m : tree.BTreeMap K X) (a : K) (r : List (K × X)) → IsRangeOf R (Included a) Unbounded m r → r ≡ []
      → HasNoneFrom {R = R} (from_entries m.entries) a
  none_from m a r range none = record { none = λ q above. get-seen m q ∙ range.5 none q (above, tt) }

  -- The first entry of a whole map.
  pub least_of_all : (m : tree.BTreeMap K X) (k : K) (x : X) → tree.get R m k ≡ Some x → tree.IsLowerBound R m k
      → IsLeastAfter {R = R} (from_entries m.entries) None k x
  least_of_all m k x first least = record {
    stands = get-seen m k ∙ first;
    past = tt;
    least = λ q past has. least q (subst IsSome (get-seen m q) has);
  }

  pub none_at_all : {A : Type 0} (m : tree.BTreeMap K X) (r : Option A) → (IsSome r ↔ (0 < length m.entries))
      → IfNone r (HasNoneAfter {R = R} (from_entries m.entries) None)
  none_at_all m (Some a) some = tt
  none_at_all m None some = record {
    none = λ q past. ap (λ (w : FinMap R X). get w q) (seen-empty m (none_left m.entries (λ low. none (some.1 low))))
        ∙ get-empty R q;
  } where
    none : false ≡ true → ⊥
    none e = grind arith

  -- The last entry below a key.
  pub last_below : (m : tree.BTreeMap K X) (a : K) (r t : List (K × X)) (e : K × X) → IsRangeOf R Unbounded (Excluded a) m r → r ≡ t ++ e ∷ []
      → IsLastBefore {R = R} (from_entries m.entries) a e.0 e.1
  last_below m a r t e range last = record {
    stands = get-seen m e.0 ∙ (range.3 e t last).1;
    below = (range.3 e t last).0.1;
    greatest = λ q below has. not_above (R e.0 q) (R q e.0) (o.antisymm q e.0) (range.4 e t last q (tt, below) (subst IsSome (get-seen m q) has));
  }

  pub none_below : (m : tree.BTreeMap K X) (a : K) (r : List (K × X)) → IsRangeOf R Unbounded (Excluded a) m r → r ≡ []
      → HasNoneBefore {R = R} (from_entries m.entries) a
  none_below m a r range none = record { none = λ q below. get-seen m q ∙ range.5 none q (tt, below) }

  all_above : (k : K) (es : List (K × X)) → AllByRecursion (λ q. R k q ≡ Less) (keys_of es) → below_all R k es ≡ true
  all_above k [] above = refl
  all_above k (e ∷ es) above = and_from _ _ (ap is_lt above.0) (all_above k es above.1)

  keys_sorted : (es : List (K × X)) → IsStrictlySortedBy R (keys_of es) → is_sorted R es ≡ true
  keys_sorted [] rises = refl
  keys_sorted (e ∷ es) rises = and_from _ _ (all_above e.0 es (sorted_head R e.0 _ rises)) (keys_sorted es (sorted_tail R e.0 _ rises))

  -- The entries of the tree are those of the map.
  pub seen-entries : IsAntisymmetric R → (m : tree.BTreeMap K X) (v : FinMap R X) → from_entries m.entries ≡ v → tree.IsOrdered R m → m.entries ≡ entries v
  seen-entries same m v is rises = sym (ap entries (sym is) ∙ same_entries R o same _ m.entries (entries_sorted _) (subst T (sym (keys_sorted m.entries rises)) tt)
      (λ q. sym (get-entries _ q) ∙ get-from_entries o m.entries q))

  -- A range with no end is what its start lets through.
  with_no_end : (p : K → Bool) (es : List (K × X)) → filter (λ e. p e.0 && true) es ≡ filter (λ e. p e.0) es
  with_no_end p [] = refl
  with_no_end p (e ∷ es) = ap (λ b. cond b (e ∷ filter (λ e. p e.0 && true) es) (filter (λ e. p e.0 && true) es)) (and-true (p e.0))
      ∙ ap (λ (l : List (K × X)). cond (p e.0) (e ∷ l) l) (with_no_end p es)

  pub seen-range : IsAntisymmetric R → (m : tree.BTreeMap K X) (v : FinMap R X) (r : List (K × X)) (p : K → Bool) → from_entries m.entries ≡ v → tree.IsOrdered R m
      → r ≡ filter (λ e. p e.0 && true) m.entries → r ≡ filter (λ e. p e.0) (entries v)
  seen-range same m v r p is rises range = range ∙ with_no_end p m.entries ∙ ap (filter (λ e. p e.0)) (seen-entries same m v is rises)

  -- What is put into the tree is put into the map.
  pub seen-insert : IsAntisymmetric R → (m n : tree.BTreeMap K X) (v : FinMap R X) (k : K) (x : X) → from_entries m.entries ≡ v → tree.Updates R m n k (Some x)
      → from_entries n.entries ≡ insert v k x
  seen-insert same m n v k x is updates = same_map o same (from_entries n.entries) (insert v k x) (λ q.
      get-seen n q ∙ updates.0 q ∙ ap (λ b. cond b (Some x) (tree.get R m q)) ((eq_by_cmp_equiv o).symm k q)
      ∙ ap (cond (eq_by_cmp R q k) (Some x)) (sym (at m v q is)) ∙ sym (get-insert o v k x q))

  -- What is taken out of the tree is taken out of the map.
  pub seen-remove : IsAntisymmetric R → (m n : tree.BTreeMap K X) (v : FinMap R X) (k : K) → from_entries m.entries ≡ v → tree.Updates R m n k None
      → from_entries n.entries ≡ remove v k
  seen-remove same m n v k is updates = same_map o same (from_entries n.entries) (remove v k) (λ q.
      get-seen n q ∙ updates.0 q ∙ ap (λ b. cond b None (tree.get R m q)) ((eq_by_cmp_equiv o).symm k q)
      ∙ ap (cond (eq_by_cmp R q k) None) (sym (at m v q is)) ∙ sym (get-remove o v k q))

  -- What is written back as it was changes nothing.
  pub seen-kept : IsAntisymmetric R → (m n : tree.BTreeMap K X) (v : FinMap R X) (k : K) (x y : X) → from_entries m.entries ≡ v → tree.get R m k ≡ Some y
      → x ≡ y → tree.Updates R m n k (Some x) → from_entries n.entries ≡ v
  seen-kept same m n v k x y is has one updates = seen-insert same m n v k x is updates ∙ insert-present o same v k x (at m v k is ∙ has ∙ ap Some (sym one))

pub ruleset tree_maps = (seen-empty, seen-same, seen-get, seen-absent, seen-insert, seen-remove)

pub ruleset key_maps = (tree_maps, key_total, key_cmp-IsAntisymmetric)

pub ruleset bytes_maps = (tree_maps, bytes_total, bytes_cmp-IsAntisymmetric)
