-- Rows of which each is plainly before the next don't meet.
use Rattle.std.proofs.Common.{◌≡◌, ℕ, zero, suc, ◌+◌, ◌-◌, ◌<◌, ◌≤◌, min, Bool, true, false, true≢false, List, []}
use Rattle.std.proofs.Common.{◌∷◌, length, get_or, drop, map, Some, Less, Equal, Greater, Bor, refl, sym, ◌∙◌, ap, subst, arith}
use Rattle.std.specs.declared.cmp.Ordering.{Ordering}
use Rattle.std.specs.List.{AllPairs}
use Rattle.std.specs.List.Sorted.{IsPermutation}
use Rattle.std.proofs.lemmas.List.{get_or-map, length-map}
use Rattle.std.proofs.lemmas.List.Sorted.{IsPermutation-map, IsPermutation-sym}
use Rattle.key_names.specs.Order.{bytes_cmp, bytes_total, bytes_cmp-IsAntisymmetric}
use Rattle.typed_settings.proofs.Apart.{permuted_apart}
use Rattle.typed_settings.proofs.Orders.{bytes_tie}
use Rattle.typed_settings.specs.Order.{plain_cmp, before_then, is_plainly_before}
use Rattle.typed_settings.specs.Pattern.{Agree, Meet}
use Rattle.typed_settings.specs.Row.{AreApart}
use Rattle.typed_settings.specs.declared.place.Place.{Place}
use Rattle.typed_settings.specs.declared.place.Place.TheVariants.{Any, Plain}
use Rattle.typed_settings.specs.declared.row.Row.{Row}

-- Where one of the two is through, the test says no.
pub none_before : (one other : List Place) (i : ℕ) → min (length one) (length other) ≤ i → is_plainly_before (drop i one) (drop i other) ≡ false
none_before [] other zero past = refl
none_before [] other (suc i) past = refl
none_before (x ∷ one) [] zero past = refl
none_before (x ∷ one) [] (suc i) past = of_end (drop i one)
  where
    of_end : (rest : List Place) → is_plainly_before rest [] ≡ false
    of_end [] = refl
    of_end (y ∷ rest) = refl
none_before (x ∷ one) (y ∷ other) zero past = absurd (omega (arith, past))
none_before (x ∷ one) (y ∷ other) (suc i) past = none_before one other i (omega (arith, past))

-- What the first place tells: its segment comes first, or the two are the same and the others tell.
data First (x y : Place) (others : Bool) : Type 0 where
  less : (a b : List ℕ) → x ≡ Plain a → y ≡ Plain b → bytes_cmp a b ≡ Less → First x y others
  same : x ≡ y → others ≡ true → First x y others

first_of : (x y : Place) (others : Bool) → before_then (plain_cmp x y) others ≡ true → First x y others
first_of Any Any others told = same refl told
first_of Any (Plain b) others told = absurd (true≢false (sym told))
first_of (Plain a) Any others told = absurd (true≢false (sym told))
first_of (Plain a) (Plain b) others told = by_order (bytes_cmp a b) refl told
  where
    by_order : (r : Ordering) → bytes_cmp a b ≡ r → before_then (Some r) others ≡ true → First (Plain a) (Plain b) others
    by_order Less e told = less a b refl refl e
    by_order Equal e told = same (ap Plain (bytes_cmp-IsAntisymmetric a b e)) told
    by_order Greater e told = absurd (true≢false (sym told))

-- A place ties with itself.
place_tie : (x : Place) (others : Bool) → others ≡ true → before_then (plain_cmp x x) others ≡ true
place_tie Any others told = told
place_tie (Plain a) others told = ap (λ r. before_then (Some r) others) (bytes_tie a) ∙ told

-- A segment that comes first tells.
less_tells : (a b : List ℕ) (others : Bool) → bytes_cmp a b ≡ Less → before_then (plain_cmp (Plain a) (Plain b)) others ≡ true
less_tells a b others first = ap (λ r. before_then (Some r) others) first

-- What is before one that is before another is before it.
pub before_trans : (p q r : List Place) → is_plainly_before p q ≡ true → is_plainly_before q r ≡ true → is_plainly_before p r ≡ true
before_trans [] q r a b = absurd (true≢false (sym a))
before_trans (x ∷ p) [] r a b = absurd (true≢false (sym a))
before_trans (x ∷ p) (y ∷ q) [] a b = absurd (true≢false (sym b))
before_trans (x ∷ p) (y ∷ q) (z ∷ r) a b = join (λ m n. before_trans p q r m n) (first_of x y (is_plainly_before p q) a)
    (first_of y z (is_plainly_before q r) b)
  where
    join : (is_plainly_before p q ≡ true → is_plainly_before q r ≡ true → is_plainly_before p r ≡ true) → First x y (is_plainly_before p q)
        → First y z (is_plainly_before q r) → before_then (plain_cmp x z) (is_plainly_before p r) ≡ true
    join again (less a b x_is y_is first) (less c d y_is' z_is second) =
        let same_middle : b ≡ c = cc in
        subst (λ u. before_then (plain_cmp u z) (is_plainly_before p r) ≡ true) (sym x_is)
        (subst (λ v. before_then (plain_cmp (Plain a) v) (is_plainly_before p r) ≡ true) (sym z_is)
        (less_tells a d (is_plainly_before p r) (bytes_total.trans a b d first (subst (λ m. bytes_cmp m d ≡ Less) (sym same_middle) second))))
    join again (less a b x_is y_is first) (same y_z others) =
        subst (λ u. before_then (plain_cmp u z) (is_plainly_before p r) ≡ true) (sym x_is)
        (subst (λ v. before_then (plain_cmp (Plain a) v) (is_plainly_before p r) ≡ true) (sym y_is ∙ y_z)
        (less_tells a b (is_plainly_before p r) first))
    join again (same x_y others) (less c d y_is z_is second) =
        subst (λ u. before_then (plain_cmp u z) (is_plainly_before p r) ≡ true) (sym (x_y ∙ y_is))
        (subst (λ v. before_then (plain_cmp (Plain c) v) (is_plainly_before p r) ≡ true) (sym z_is)
        (less_tells c d (is_plainly_before p r) second))
    join again (same x_y others) (same y_z others') =
        subst (λ v. before_then (plain_cmp x v) (is_plainly_before p r) ≡ true) (x_y ∙ y_z) (place_tie x (is_plainly_before p r) (again others others'))

-- Patterns of which one is plainly before the other don't meet.
pub before_apart : (p q : List Place) → is_plainly_before p q ≡ true → Meet p q → ⊥
before_apart [] q told meet = true≢false (sym told)
before_apart (x ∷ p) [] told meet = true≢false (sym told)
before_apart (x ∷ p) (y ∷ q) told meet = by_first (λ others. before_apart p q others (record { agree = λ i. meet.agree (suc i) }))
    (first_of x y (is_plainly_before p q) told)
  where
    by_first : (is_plainly_before p q ≡ true → ⊥) → First x y (is_plainly_before p q) → ⊥
    by_first again (less a b x_is y_is first) =
        let agree : Agree (Plain a) (Plain b) = subst (λ u. Agree u (Plain b)) x_is (subst (λ v. Agree x v) y_is (meet.agree 0)) in
        let tie : bytes_cmp a b ≡ Equal = ap (bytes_cmp a) (sym agree) ∙ bytes_tie a in
        absurd (cc (first, tie))
    by_first again (same x_y others) = again others

-- ---- rows

module _ (rows : List (Bor Row)) where
  -- Each row is plainly before the next.
  abbrev pub Ascend : Type 0
  Ascend = (k : ℕ) (d : Bor Row) → k + 1 < length rows → is_plainly_before (get_or rows k d).now.pattern (get_or rows (k + 1) d).now.pattern ≡ true

  -- So it is before one that is further on.
  far : Ascend → (n i j : ℕ) (d : Bor Row) → j ≡ i + suc n → j < length rows → is_plainly_before (get_or rows i d).now.pattern (get_or rows j d).now.pattern ≡
      true
  far next zero i j d is within =
      let j_is : i + 1 ≡ j = omega (arith, is) in
      subst (λ m. is_plainly_before (get_or rows i d).now.pattern (get_or rows m d).now.pattern ≡ true) j_is (next i d (omega (arith, is, within)))
  far next (suc n) i j d is within =
      let j_is : (i + suc n) + 1 ≡ j = omega (arith, is) in
      before_trans (get_or rows i d).now.pattern (get_or rows (i + suc n) d).now.pattern (get_or rows j d).now.pattern
      (far next n i (i + suc n) d refl (omega (arith, is, within)))
      (subst (λ m. is_plainly_before (get_or rows (i + suc n) d).now.pattern (get_or rows m d).now.pattern ≡ true) j_is
      (next (i + suc n) d (omega (arith, is, within))))

  -- And before all that are after it.
  all_before : Ascend → AllPairs (λ a b. is_plainly_before a.now.pattern b.now.pattern ≡ true) rows
  all_before next i j d before within = far next (j - (i + 1)) i j d (omega (arith, before)) within

-- Some row, where there is one.
some_row : (rows : List (Bor Row)) (i : ℕ) → i < length rows → Bor Row
some_row [] i within = absurd (omega (arith, within))
some_row (x ∷ rows) i within = x

-- No two of them meet then.
apart_before : (rows : List (Bor Row)) → AllPairs (λ a b. is_plainly_before a.now.pattern b.now.pattern ≡ true) rows → AreApart (map (λ b. b.now) rows)
apart_before rows told i j d before within =
    let here : j < length rows = omega (arith, within, length-map rows (λ (b : Bor Row). b.now)) in
    let e = some_row rows j here in
    rw (get_or-map (λ (b : Bor Row). b.now) rows i e d (omega (arith, before, here)), get_or-map (λ (b : Bor Row). b.now) rows j e d here)
    (before_apart (get_or rows i e).now.pattern (get_or rows j e).now.pattern (told i j e before here))

-- Nor of the rows that were sorted.
pub apart_sorted : (rows : List Row) (collected sorted : List (Bor Row)) → map (λ b. b.now) collected ≡ rows → IsPermutation collected sorted → Ascend sorted
    → AreApart rows
apart_sorted rows collected sorted is moved next =
    let back = IsPermutation-sym (map (λ (b : Bor Row). b.now) collected) (map (λ (b : Bor Row). b.now) sorted)
    (IsPermutation-map (λ (b : Bor Row). b.now) collected sorted moved) in
    subst AreApart is (permuted_apart (map (λ b. b.now) sorted) (map (λ b. b.now) collected) back (apart_before sorted (all_before sorted next)))
