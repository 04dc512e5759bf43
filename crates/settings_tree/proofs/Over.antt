-- The values once values and removals are laid over them, and a walk through them by steps through both.
use Rattle.std.proofs.Common.{◌≡◌, ℕ, List, [], ◌∷◌, Option, Some, None, IsSome, IsTrue, is_some, Bool, true, false, cond, refl, sym, ◌∙◌, ap, subst}
use Rattle.std.specs.Prelude.{fold}
use Rattle.std.specs.declared.cmp.Ordering.{Ordering}
use Rattle.std.specs.declared.cmp.Ordering.TheVariants.{Less, Equal, Greater}
use Rattle.std.specs.Ordering.{eq_by_cmp, is_gt, ordering_reverse}
use Rattle.std.specs.BTreeMap.Range.{IsLeBy}
use Rattle.std.specs.FinMap.{FinMap, get, entries, find, get-insert, get-remove, get-entries, is_sorted}
use Rattle.std.specs.FinMap.Entries.{below_all}
use Rattle.std.proofs.lemmas.Bool.{and_parts, both_ways}
use Rattle.key_names.specs.Order.{key_cmp, key_total, key_cmp-IsAntisymmetric}
use Rattle.key_names.specs.Key.{is_prefix}
use Rattle.json_trees.specs.declared.scalar.Scalar.{Scalar}
use Rattle.json_trees.specs.declared.pending.Pending.{Pending}
use Rattle.json_trees.specs.declared.pending.Pending.TheVariants.{Put, Gone}
use Rattle.settings_maps.specs.Maps.{IsPast}
use Rattle.settings_tree.specs.Content.{Contents}
use Rattle.settings_tree.specs.Over.{with_pending, laid_over}
use Rattle.settings_tree.specs.Walks.{IsLeastBelow, HasNoneBelow, HasNoneUntil}
use Rattle.settings_tree.proofs.Below.{lt_le, missing, not_gt}
use Rattle.settings_tree.proofs.Found.{not_found}
use Rattle.settings_tree.proofs.Rising.{entries_rise}
use Rattle.settings_tree.proofs.Walks.{past_trans}

abbrev Key : Type 0
Key = List (List ℕ)

-- The value of a key once what is pending for it is laid over it.
abbrev pub over : Option Pending → Option Scalar → Option Scalar
over None live = live
over (Some (Put v)) live = Some v
over (Some Gone) live = None

one_over : (m : FinMap key_cmp Scalar) (k : Key) (p : Pending) (q : Key) → get (with_pending m k p) q ≡ cond (eq_by_cmp key_cmp q k) (over (Some p) (get m q))
    (get m q)
one_over m k (Put v) q = get-insert key_total m k v q
one_over m k Gone q = get-remove key_total m k q

-- What is at a key after rising entries are laid over a map.
found_over : (m : FinMap key_cmp Scalar) (es : List (Key × Pending)) (q : Key) → is_sorted key_cmp es ≡ true
    → get (fold (λ n e. with_pending n e.0 e.1) m es) q ≡ over (find key_cmp q es) (get m q)
found_over m [] q rises = refl
found_over m (e ∷ es) q rises =
    let both = and_parts (below_all key_cmp e.0 es) (is_sorted key_cmp es) rises in
    found_over (with_pending m e.0 e.1) es q both.1 ∙ ap (over (find key_cmp q es)) (one_over m e.0 e.1 q) ∙ by (eq_by_cmp key_cmp q e.0) refl both.0
  where
    by : (b : Bool) → eq_by_cmp key_cmp q e.0 ≡ b → below_all key_cmp e.0 es ≡ true → over (find key_cmp q es) (cond b (over (Some e.1) (get m q)) (get m q)) ≡
        over (cond b (Some e.1) (find key_cmp q es)) (get m q)
    by true is below = ap (λ (o : Option Pending). over o (over (Some e.1) (get m q))) (not_found q e.0 es is below)
    by false is below = refl

-- The values once values and removals are laid over them.
pub get-laid_over : (live : Contents) (m : FinMap key_cmp Pending) (q : List (List ℕ)) → get (laid_over live m).values q ≡ over (get m q) (get live.values q)
get-laid_over live m q = found_over live.values (entries m) q (entries_rise m)
    ∙ ap (λ (o : Option Pending). over o (get live.values q)) (sym (get-entries m q))

lacks : {X : Type 0} (o : Option X) → IsSome o → o ≡ None → ⊥
lacks o some none = cc (some, none)

-- A walk has come from one key to another, and has passed no entry below the prefix on its way.
pub record HasPassed (values : FinMap key_cmp Scalar) (prefix : List (List ℕ)) (first last : Option (List (List ℕ))) : Type 0 where
  pub onward : (q : List (List ℕ)) → IsPast key_cmp last q → IsPast key_cmp first q
  pub none : (q : List (List ℕ)) → IsPast key_cmp first q → IsTrue (is_prefix prefix q) → IsSome (get values q) → IsPast key_cmp last q

module _ (values : FinMap key_cmp Scalar) (p : List (List ℕ)) where
  -- At its start it has passed none.
  pub passed_none : (a : Option (List (List ℕ))) → HasPassed values p a a
  passed_none a = record { onward = λ q past. past; none = λ q past begins has. past }

  -- So what is next from there is next from the start.
  pub least_passed : (first last : Option (List (List ℕ))) (k : List (List ℕ)) (x : Scalar) → HasPassed values p first last
      → IsLeastBelow values p last k x → IsLeastBelow values p first k x
  least_passed first last k x passed next = record {
    stands = next.stands;
    past = passed.onward k next.past;
    begins = next.begins;
    least = λ q past begins has. next.least q (passed.none q past begins has) begins has;
  }

  pub none_passed : (first last : Option (List (List ℕ))) → HasPassed values p first last → HasNoneBelow values p last → HasNoneBelow values p first
  none_passed first last passed end = record {
    none = λ q past begins. missing (get values q) (λ has. lacks (get values q) has (end.none q (passed.none q past begins has) begins));
  }

not_below : (k q : Key) → (key_cmp k q ≡ Less → ⊥) → IsLeBy key_cmp q k
not_below k q not = by (key_cmp k q) refl where
  by : (r : Ordering) → key_cmp k q ≡ r → is_gt (key_cmp q k) ≡ false
  by Less is = absurd (not is)
  by Equal is = ap is_gt (key_total.antisymm q k ∙ ap ordering_reverse is)
  by Greater is = ap is_gt (key_total.antisymm q k ∙ ap ordering_reverse is)

module _ (live : Contents) (m : FinMap key_cmp Pending) (p : List (List ℕ)) (a : Option (List (List ℕ))) where
  abbrev over_all : FinMap key_cmp Scalar
  over_all = (laid_over live m).values

  -- A value that is shown is live where nothing is pending.
  stands_live : (q : Key) (x : Option Scalar) → get m q ≡ None → get live.values q ≡ x → get over_all q ≡ x
  stands_live q x none is = get-laid_over live m q ∙ ap (λ (o : Option Pending). over o (get live.values q)) none ∙ is

  -- What is shown is pending or live.
  or_live : {C : Type 0} (q : Key) → IsSome (get over_all q) → (IsSome (get m q) → C) → (IsSome (get live.values q) → C) → C
  or_live {C} q has pending other = by (get m q) refl (subst IsSome (get-laid_over live m q) has) where
    by : (o : Option Pending) → get m q ≡ o → IsSome (over o (get live.values q)) → C
    by None is some = other some
    by (Some e) is some = pending (ap is_some is)

  no_gt : (k q : Key) → key_cmp k q ≡ Less → IsLeBy key_cmp q k → ⊥
  no_gt k q less low = both_ways (is_gt (key_cmp q k)) low (ap is_gt (key_total.antisymm q k ∙ ap ordering_reverse less))

  -- A live value before all that is pending comes first.
  pub live_first : (k q : List (List ℕ)) (x : Scalar) (y : Pending) → IsLeastBelow live.values p a k x → IsLeastBelow m p a q y → key_cmp k q ≡ Less
      → IsLeastBelow over_all p a k x
  live_first k q x y one other less = record {
    stands = stands_live k (Some x) (missing (get m k) (λ has. no_gt k q less (other.least k one.past one.begins has))) one.stands;
    past = one.past;
    begins = one.begins;
    least = λ z past begins has. or_live z has (λ some. not_gt _ (lt_le k q z less (other.least z past begins some))) (λ some. one.least z past begins some);
  }

  from_key : (q : Key) (y : Pending) → IsLeastBelow m p a q y → HasNoneUntil live.values p a q → (z : Key) → IsPast key_cmp a z → IsTrue (is_prefix p z)
      → IsSome (get over_all z) → IsLeBy key_cmp q z
  from_key q y next before z past begins has = or_live z has (λ some. next.least z past begins some)
      (λ some. not_below z q (λ less. lacks (get live.values z) some (before.none z past less begins)))

  shown_at : (q : Key) (y : Pending) → get m q ≡ Some y → get over_all q ≡ over (Some y) (get live.values q)
  shown_at q y is = get-laid_over live m q ∙ ap (λ (o : Option Pending). over o (get live.values q)) is

  -- A pending value with no live one before it comes first.
  pub put_first : (q : List (List ℕ)) (v : Scalar) → IsLeastBelow m p a q (Put v) → HasNoneUntil live.values p a q → IsLeastBelow over_all p a q v
  put_first q v next before = record {
    stands = shown_at q (Put v) next.stands;
    past = next.past;
    begins = next.begins;
    least = from_key q (Put v) next before;
  }

  -- A removal with no live value before it is passed.
  pub removal_passed : (first : Option (List (List ℕ))) (q : List (List ℕ)) → IsLeastBelow m p a q Gone → HasNoneUntil live.values p a q
      → HasPassed over_all p first a → HasPassed over_all p first (Some q)
  removal_passed first q next before passed = record {
    onward = λ z past. passed.onward z (past_trans key_total a q z next.past past);
    none = λ z past begins has. by z (key_cmp q z) refl has (from_key q Gone next before z (passed.none z past begins has) begins has);
  } where
    by : (z : Key) (r : Ordering) → key_cmp q z ≡ r → IsSome (get over_all z) → IsLeBy key_cmp q z → key_cmp q z ≡ Less
    by z Less is has low = is
    by z Equal is has low = absurd (lacks (get over_all z) has (ap (get over_all) (sym (key_cmp-IsAntisymmetric q z is)) ∙ shown_at q Gone next.stands))
    by z Greater is has low = absurd (both_ways (is_gt (key_cmp q z)) low (ap is_gt is))

  -- Where nothing is pending any more, the live values are left.
  pub live_left : (k : List (List ℕ)) (x : Scalar) → HasNoneBelow m p a → IsLeastBelow live.values p a k x → IsLeastBelow over_all p a k x
  live_left k x none next = record {
    stands = stands_live k (Some x) (none.none k next.past next.begins) next.stands;
    past = next.past;
    begins = next.begins;
    least = λ z past begins has. next.least z past begins (subst IsSome (stands_live z (get live.values z) (none.none z past begins) refl) has);
  }

  pub none_left : HasNoneBelow m p a → HasNoneBelow live.values p a → HasNoneBelow over_all p a
  none_left none end = record { none = λ z past begins. stands_live z None (none.none z past begins) (end.none z past begins) }
