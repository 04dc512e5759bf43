-- Maps, and maps of maps.
use Rattle.std.proofs.Common.{arith, ℕ, ◌≡◌, Option, Some, None, Bool, true, false, cond, unwrap_or, refl, sym, ◌∙◌, ap}
use Rattle.std.specs.Prelude.{◌==◌}
use Rattle.std.specs.declared.cmp.Ordering.{Ordering}
use Rattle.std.specs.declared.cmp.Ordering.TheVariants.{Less, Equal, Greater}
use Rattle.std.specs.Cmp.{IsTotalOrder, eq_by_cmp_equiv}
use Rattle.std.specs.Ordering.{eq_by_cmp, is_eq}
use Rattle.std.specs.FinMap.{FinMap, IsAntisymmetric, empty, get, insert, remove}
use Rattle.std.specs.FinMap.{get-empty, get-insert, get-remove, get_tied, len-empty, empty_of_len, same_map}
use Rattle.std.proofs.lemmas.Bool.{eqb-true, both_ways}
use Rattle.settings_maps.specs.Maps.{inner, value_at, with_value, without_value, with_inner, is_empty, IsFull}

-- Keys that tie.
pub tied_by : (r : Ordering) → is_eq r ≡ true → r ≡ Equal
tied_by Less e = grind arith
tied_by Equal e = refl
tied_by Greater e = grind arith

module _ {K X : Type 0} {R : K → K → Ordering} (o : IsTotalOrder R) where
  -- What was put at a key is there.
  pub get-insert_same : (m : FinMap R X) (k : K) (x : X) → get (insert m k x) k ≡ Some x
  get-insert_same m k x = get-insert o m k x k ∙ ap (λ b. cond b (Some x) (get m k)) ((eq_by_cmp_equiv o).refl k)

  -- Nothing is at a key that was removed.
  pub get-remove_same : (m : FinMap R X) (k : K) → get (remove m k) k ≡ None
  get-remove_same m k = get-remove o m k k ∙ ap (λ b. cond b None (get m k)) ((eq_by_cmp_equiv o).refl k)

  -- Another key keeps its value.
  pub get-insert_other : (m : FinMap R X) (k q : K) (x : X) → eq_by_cmp R q k ≡ false → get (insert m k x) q ≡ get m q
  get-insert_other m k q x apart = get-insert o m k x q ∙ ap (λ b. cond b (Some x) (get m q)) apart

  pub get-remove_other : (m : FinMap R X) (k q : K) → eq_by_cmp R q k ≡ false → get (remove m k) q ≡ get m q
  get-remove_other m k q apart = get-remove o m k q ∙ ap (λ b. cond b None (get m q)) apart

  module _ (same : IsAntisymmetric R) where
    at_absent : (m : FinMap R X) (k q : K) (b : Bool) → eq_by_cmp R q k ≡ b → get m k ≡ None → cond b None (get m q) ≡ get m q
    at_absent m k q true e none = sym none ∙ get_tied o m q k (tied_by (R q k) e)
    at_absent m k q false e none = refl

    -- To remove a key that is missing changes nothing.
    pub remove-absent : (m : FinMap R X) (k : K) → get m k ≡ None → remove m k ≡ m
    remove-absent m k none = same_map o same _ m (λ q. get-remove o m k q ∙ at_absent m k q _ refl none)

    at_present : (m : FinMap R X) (k q : K) (x : X) (b : Bool) → eq_by_cmp R q k ≡ b → get m k ≡ Some x → cond b (Some x) (get m q) ≡ get m q
    at_present m k q x true e has = sym has ∙ get_tied o m q k (tied_by (R q k) e)
    at_present m k q x false e has = refl

    -- To put what is there changes nothing.
    pub insert-present : (m : FinMap R X) (k : K) (x : X) → get m k ≡ Some x → insert m k x ≡ m
    insert-present m k x has = same_map o same _ m (λ q. get-insert o m k x q ∙ at_present m k q x _ refl has)

    twice : (b : Bool) (p q r : Option X) → cond b p (cond b q r) ≡ cond b p r
    twice true p q r = refl
    twice false p q r = refl

    -- The later of two puts counts.
    pub insert-insert : (m : FinMap R X) (k : K) (x y : X) → insert (insert m k x) k y ≡ insert m k y
    insert-insert m k x y = same_map o same _ _ (λ q. get-insert o (insert m k x) k y q ∙ ap (cond (eq_by_cmp R q k) (Some y)) (get-insert o m k x q)
        ∙ twice (eq_by_cmp R q k) _ _ _ ∙ sym (get-insert o m k y q))

    -- A removal undoes a put.
    pub remove-insert : (m : FinMap R X) (k : K) (x : X) → remove (insert m k x) k ≡ remove m k
    remove-insert m k x = same_map o same _ _ (λ q. get-remove o (insert m k x) k q ∙ ap (cond (eq_by_cmp R q k) None) (get-insert o m k x q)
        ∙ twice (eq_by_cmp R q k) _ _ _ ∙ sym (get-remove o m k q))

-- A map with a key is not empty.
pub not_empty : {K X : Type 0} {R : K → K → Ordering} (m : FinMap R X) (k : K) (x : X) → get m k ≡ Some x → is_empty m ≡ false
not_empty {X = X} {R = R} m k x has = go (is_empty m) refl where
  go : (b : Bool) → is_empty m ≡ b → b ≡ false
  go true is = absurd (cc (ap (λ (w : FinMap R X). get w k) (empty_of_len m (eqb-true _ _ is)), has, get-empty {X = X} R k))
  go false is = refl

-- Nothing is in an empty map.
pub get-is_empty : {K X : Type 0} {R : K → K → Ordering} (m : FinMap R X) (k : K) → is_empty m ≡ true → get m k ≡ None
get-is_empty {X = X} {R = R} m k is = ap (λ (w : FinMap R X). get w k) (empty_of_len m (eqb-true _ _ is)) ∙ get-empty R k

-- The empty map is empty.
pub is_empty-empty : {N : Type 0} (S : N → N → Ordering) (X : Type 0) → is_empty (empty {X = X} {R = S}) ≡ true
is_empty-empty S X = ap (λ (n : ℕ). n == 0) (len-empty S X)

module _ {K N X : Type 0} {R : K → K → Ordering} {S : N → N → Ordering} where
  -- Nothing is under a key that is missing.
  pub none_in : (m : FinMap R (FinMap S X)) (k : K) (n : N) → None ≡ get m k → None ≡ value_at m k n
  none_in m k n none = sym (ap (λ o. get (unwrap_or o empty) n) (sym none) ∙ get-empty S n)

  -- A new key with one name.
  pub new_entry : (t s : FinMap R (FinMap S X)) (k : K) (n : N) (x : X) (w : FinMap S X) → get t k ≡ None → w ≡ insert empty n x → s ≡ insert t k w
      → s ≡ with_value t k n x
  new_entry t s k n x w none one is = is ∙ ap (insert t k) (one ∙ ap (λ o. insert (unwrap_or o empty) n x) (sym none))

  module _ (o : IsTotalOrder R) (same : IsAntisymmetric R) where
    pub inner-insert : (m : FinMap R (FinMap S X)) (k : K) (i : FinMap S X) → inner (insert m k i) k ≡ i
    inner-insert m k i = ap (λ o. unwrap_or o empty) (get-insert_same o m k i)

    with_by : (b : Bool) (m : FinMap R (FinMap S X)) (k : K) (i : FinMap S X) → cond b (remove (insert m k i) k) (insert m k i) ≡ cond b (remove m k)
        (insert m k i)
    with_by true m k i = remove-insert o same m k i
    with_by false m k i = refl

    -- A map put under a key, and the key removed where the map is empty.
    pub dropped : (m a n : FinMap R (FinMap S X)) (k : K) (i : FinMap S X) → a ≡ insert m k i → n ≡ cond (is_empty (inner a k)) (remove a k) a
        → n ≡ with_inner m k i
    dropped m a n k i is drop = drop ∙ ap (λ (x : FinMap R (FinMap S X)). cond (is_empty (inner x k)) (remove x k) x) is
        ∙ ap (λ (j : FinMap S X). cond (is_empty j) (remove (insert m k i) k) (insert m k i)) (inner-insert m k i) ∙ with_by (is_empty i) m k i

    -- The empty map under a missing key.
    pub drop_absent : (m : FinMap R (FinMap S X)) (k : K) → None ≡ get m k → m ≡ cond (is_empty (inner m k)) (remove m k) m
    drop_absent m k none = sym (ap (λ b. cond b (remove m k) m) (ap (λ o. is_empty (unwrap_or o empty)) (sym none) ∙ is_empty-empty S X)
        ∙ remove-absent o same m k (sym none))

    -- To remove a name under a missing key changes nothing.
    pub without_absent : IsTotalOrder S → IsAntisymmetric S → (m : FinMap R (FinMap S X)) (k : K) (n : N) → get m k ≡ None → m ≡ without_value m k n
    without_absent p alike m k n none = sym (ap (λ o. with_inner m k (remove (unwrap_or o empty) n)) none
        ∙ ap (with_inner m k) (remove-absent p alike empty n (get-empty S n)) ∙ ap (λ b. cond b (remove m k) (insert m k empty)) (is_empty-empty S X)
        ∙ remove-absent o same m k none)

  module _ (o : IsTotalOrder R) where
    cond_inner : (b : Bool) (i : FinMap S X) (z : Option (FinMap S X)) → unwrap_or (cond b (Some i) z) empty ≡ cond b i (unwrap_or z empty)
    cond_inner true i z = refl
    cond_inner false i z = refl

    cond_none : (b : Bool) (z : Option (FinMap S X)) → unwrap_or (cond b None z) empty ≡ cond b empty (unwrap_or z empty)
    cond_none true z = refl
    cond_none false z = refl

    -- The map under a key after a map was put under another or the same.
    pub inner-with_inner : (m : FinMap R (FinMap S X)) (k q : K) (i : FinMap S X) → inner (with_inner m k i) q ≡ cond (eq_by_cmp R q k) i (inner m q)
    inner-with_inner m k q i = by (is_empty i) refl where
      by : (b : Bool) → is_empty i ≡ b → inner (cond b (remove m k) (insert m k i)) q ≡ cond (eq_by_cmp R q k) i (inner m q)
      by true is = ap (λ z. unwrap_or z empty) (get-remove o m k q) ∙ cond_none (eq_by_cmp R q k) (get m q)
          ∙ ap (λ j. cond (eq_by_cmp R q k) j (inner m q)) (sym (empty_of_len i (eqb-true _ _ is)))
      by false is = ap (λ z. unwrap_or z empty) (get-insert o m k i q) ∙ cond_inner (eq_by_cmp R q k) i (get m q)

    -- The map under a key after a put at another or the same.
    pub inner-with : (m : FinMap R (FinMap S X)) (k q : K) (n : N) (x : X) → inner (with_value m k n x) q ≡ cond (eq_by_cmp R q k) (insert (inner m k) n x)
        (inner m q)
    inner-with m k q n x = ap (λ z. unwrap_or z empty) (get-insert o m k _ q) ∙ cond_inner (eq_by_cmp R q k) _ (get m q)

    inner_cond : (b : Bool) (i : FinMap S X) (z : Option (FinMap S X)) (r : N) → get (unwrap_or (cond b (Some i) z) empty) r ≡ cond b (get i r)
        (get (unwrap_or z empty) r)
    inner_cond true i z r = refl
    inner_cond false i z r = refl

    none_cond : (b : Bool) (z : Option (FinMap S X)) (r : N) → get (unwrap_or (cond b None z) empty) r ≡ cond b None (get (unwrap_or z empty) r)
    none_cond true z r = get-empty S r
    none_cond false z r = refl

    -- What is where a map was put under a key.
    pub value_at-with_inner : (m : FinMap R (FinMap S X)) (k q : K) (i : FinMap S X) (r : N)
        → value_at (with_inner m k i) q r ≡ cond (eq_by_cmp R q k) (get i r) (value_at m q r)
    value_at-with_inner m k q i r = by (is_empty i) refl where
      by : (b : Bool) → is_empty i ≡ b → value_at (cond b (remove m k) (insert m k i)) q r ≡ cond (eq_by_cmp R q k) (get i r) (value_at m q r)
      by true is = ap (λ z. get (unwrap_or z empty) r) (get-remove o m k q) ∙ none_cond (eq_by_cmp R q k) (get m q) r
          ∙ ap (λ z. cond (eq_by_cmp R q k) z (value_at m q r)) (sym (get-is_empty i r is))
      by false is = ap (λ z. get (unwrap_or z empty) r) (get-insert o m k i q) ∙ inner_cond (eq_by_cmp R q k) i (get m q) r

    -- A key that ties has the same map.
    tied : (m : FinMap R (FinMap S X)) (k q : K) (r : N) (x : Option X) (b c : Bool) → eq_by_cmp R q k ≡ b
        → cond b (cond c x (value_at m k r)) (value_at m q r) ≡ cond b (cond c x (value_at m q r)) (value_at m q r)
    tied m k q r x true c is = ap (λ z. cond c x (get (unwrap_or z empty) r)) (get_tied o m q k (tied_by (R q k) is))
    tied m k q r x false c is = refl

    -- What is at a key and a name after a put at another or the same.
    pub value_at-with : IsTotalOrder S → (m : FinMap R (FinMap S X)) (k q : K) (n r : N) (x : X)
        → value_at (with_value m k n x) q r ≡ cond (eq_by_cmp R q k) (cond (eq_by_cmp S r n) (Some x) (value_at m q r)) (value_at m q r)
    value_at-with p m k q n r x = ap (λ z. get (unwrap_or z empty) r) (get-insert o m k _ q) ∙ inner_cond (eq_by_cmp R q k) _ (get m q) r
        ∙ ap (λ z. cond (eq_by_cmp R q k) z (value_at m q r)) (get-insert p (inner m k) n x r) ∙ tied m k q r (Some x) _ (eq_by_cmp S r n) refl

    -- What is at a key and a name after a removal at another or the same.
    pub value_at-without : IsTotalOrder S → (m : FinMap R (FinMap S X)) (k q : K) (n r : N)
        → value_at (without_value m k n) q r ≡ cond (eq_by_cmp R q k) (cond (eq_by_cmp S r n) None (value_at m q r)) (value_at m q r)
    value_at-without p m k q n r = value_at-with_inner m k q (remove (inner m k) n) r ∙ ap (λ z. cond (eq_by_cmp R q k) z (value_at m q r))
        (get-remove p (inner m k) n r) ∙ tied m k q r None _ (eq_by_cmp S r n) refl

    -- What was put at a key and a name is there, and what was taken is not.
    pub value_at-with_same : IsTotalOrder S → (m : FinMap R (FinMap S X)) (k : K) (n : N) (x : X) → value_at (with_value m k n x) k n ≡ Some x
    value_at-with_same p m k n x = ap (λ z. get (unwrap_or z empty) n) (get-insert_same o m k _) ∙ get-insert_same p (inner m k) n x

    pub value_at-without_same : IsTotalOrder S → (m : FinMap R (FinMap S X)) (k : K) (n : N) → value_at (without_value m k n) k n ≡ None
    value_at-without_same p m k n = value_at-without p m k k n n ∙ ap (λ b. cond b (cond (eq_by_cmp S n n) None (value_at m k n)) (value_at m k n))
        ((eq_by_cmp_equiv o).refl k)
        ∙ ap (λ b. cond b None (value_at m k n)) ((eq_by_cmp_equiv p).refl n)

    full_insert : (m : FinMap R (FinMap S X)) (k : K) (i : FinMap S X) → IsFull m → is_empty i ≡ false → IsFull (insert m k i)
    full_insert m k i full some = record { each = λ q j has. by q j (eq_by_cmp R q k) (sym (get-insert o m k i q) ∙ has) } where
      by : (q : K) (j : FinMap S X) (b : Bool) → cond b (Some i) (get m q) ≡ Some j → is_empty j ≡ false
      by q j true has = ap is_empty (sym (same_Some i j has)) ∙ some where
        same_Some : (i j : FinMap S X) → Some i ≡ Some j → i ≡ j
        same_Some i j e = ap (λ (o : Option (FinMap S X)). unwrap_or o i) e
      by q j false has = full.each q j has

    full_remove : (m : FinMap R (FinMap S X)) (k : K) → IsFull m → IsFull (remove m k)
    full_remove m k full = record { each = λ q j has. by q j (eq_by_cmp R q k) (sym (get-remove o m k q) ∙ has) } where
      by : (q : K) (j : FinMap S X) (b : Bool) → cond b None (get m q) ≡ Some j → is_empty j ≡ false
      by q j true has = absurd (cc has)
      by q j false has = full.each q j has

    -- A put keeps each map full, and so does a removal.
    pub full_with : IsTotalOrder S → (m : FinMap R (FinMap S X)) (k : K) (n : N) (x : X) → IsFull m → IsFull (with_value m k n x)
    full_with p m k n x full = full_insert m k _ full (not_empty _ n x (get-insert_same p (inner m k) n x))

    pub full_without : (m : FinMap R (FinMap S X)) (k : K) (n : N) → IsFull m → IsFull (without_value m k n)
    full_without m k n full = by (is_empty (remove (inner m k) n)) refl where
      by : (b : Bool) → is_empty (remove (inner m k) n) ≡ b → IsFull (cond b (remove m k) (insert m k (remove (inner m k) n)))
      by true is = full_remove m k full
      by false is = full_insert m k _ full is

    -- The empty map is full.
    pub full_empty : IsFull (empty {X = FinMap S X} {R = R})
    full_empty = record { each = λ k i has. absurd (cc (has, get-empty {X = FinMap S X} R k)) }

-- Full maps of maps that answer alike are one.
pub same_nested : {K N X : Type 0} {R : K → K → Ordering} {S : N → N → Ordering} → IsTotalOrder R → IsAntisymmetric R → IsTotalOrder S → IsAntisymmetric S
    → (m n : FinMap R (FinMap S X)) → IsFull m → IsFull n
    → ((k : K) (r : N) → value_at m k r ≡ value_at n k r) → m ≡ n
same_nested {K} {N} {X} {R} {S} o one p two m n full other is = same_map o one m n (λ k. by k (get m k) (get n k) refl refl) where
  alone : (i : FinMap S X) → is_empty i ≡ false → ((r : N) → None ≡ get i r) → ⊥
  alone i some none = both_ways (is_empty i) some (ap is_empty (same_map p two i empty (λ r. sym (none r) ∙ sym (get-empty S r))) ∙ is_empty-empty S X)

  at : (m : FinMap R (FinMap S X)) (k : K) (z : Option (FinMap S X)) (r : N) → get m k ≡ z → value_at m k r ≡ get (unwrap_or z empty) r
  at m k z r e = ap (λ z. get (unwrap_or z empty) r) e

  by : (k : K) (a b : Option (FinMap S X)) → get m k ≡ a → get n k ≡ b → get m k ≡ get n k
  by k None None e f = e ∙ sym f
  by k (Some i) (Some j) e f = e ∙ ap Some (same_map p two i j (λ r. sym (at m k (Some i) r e) ∙ is k r ∙ at n k (Some j) r f)) ∙ sym f
  by k None (Some j) e f = absurd (alone j (other.each k j f) (λ r. sym (get-empty S r) ∙ sym (at m k None r e) ∙ is k r ∙ at n k (Some j) r f))
  by k (Some i) None e f = absurd (alone i (full.each k i e) (λ r. sym (get-empty S r) ∙ sym (at n k None r f) ∙ sym (is k r) ∙ at m k (Some i) r e))

pub ruleset nested_maps = (none_in, new_entry, dropped, drop_absent)
