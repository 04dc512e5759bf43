-- What a filter keeps.
use Rattle.std.proofs.Common.{◌≡◌, zero, suc, Bool, true, false, cond, List, [], ◌∷◌, ◌++◌, length, Contains, refl, sym, ap, ◌∙◌, arith}
use Rattle.std.specs.List.{filter}
use Rattle.std.proofs.lemmas.Bool.{false≢true}
use Rattle.std.proofs.lemmas.List.Elements.{All-contains, All-contains_itself, All-filter, filter_passes, filter-append}

module _ {X : Type 0} (test : X → Bool) where
  -- an element that passes is kept
  pub kept : (xs : List X) (x : X) → Contains xs x → test x ≡ true → Contains (filter test xs) x
  kept [] x (k, within, _) passes = absurd (omega (arith, within))
  kept (y ∷ ys) x has passes = by (λ h. kept ys x h passes) (test y) refl has
    where
      by : (Contains ys x → Contains (filter test ys) x) → (b : Bool) → test y ≡ b → Contains (y ∷ ys) x
          → Contains (cond b (y ∷ filter test ys) (filter test ys)) x
      by later true _ (zero, _, is) = (0, omega arith, is)
      by later true _ (suc k, within, is) = let rest = later (k, omega (arith, within), is) in (suc rest.0, omega (arith, rest.1), rest.2)
      by later false fails (zero, _, is) = absurd (false≢true (sym fails ∙ ap test is ∙ passes))
      by later false _ (suc k, within, is) = later (k, omega (arith, within), is)

  -- what is kept was there
  pub was_there : (xs : List X) (x : X) → Contains (filter test xs) x → Contains xs x
  was_there xs x has = All-contains (Contains xs) (filter test xs) x (All-filter test (Contains xs) xs (All-contains_itself xs)) has

  -- and passes
  pub passes : (xs : List X) (x : X) → Contains (filter test xs) x → test x ≡ true
  passes xs x has = All-contains (λ y. test y ≡ true) (filter test xs) x (filter_passes test xs) has

  -- a list is some elements, this one, and others of which these are kept
  pub record IsAround (xs : List X) (x : X) (rest : List X) : Type 0 where
    pub front : List X
    pub back : List X
    pub is : xs ≡ front ++ x ∷ back
    pub keeps : filter test back ≡ rest

  one_more : (y : X) (ys : List X) (x : X) (rest : List X) → IsAround ys x rest → IsAround (y ∷ ys) x rest
  one_more y ys x rest a = record { front = y ∷ a.front; back = a.back; is = ap (λ l. y ∷ l) a.is; keeps = a.keeps }

  -- where an element is kept, the list is around it
  pub around : (xs front : List X) (x : X) (rest : List X) → filter test xs ≡ front ++ x ∷ rest → IsAround xs x rest
  around [] [] x rest e = absurd (omega (arith, ap length e))
  around [] (f ∷ fs) x rest e = absurd (omega (arith, ap length e))
  around (y ∷ ys) front x rest e = by (λ front. around ys front x rest) (test y) front e
    where
      by : ((front : List X) → filter test ys ≡ front ++ x ∷ rest → IsAround ys x rest) → (b : Bool) (front : List X)
          → cond b (y ∷ filter test ys) (filter test ys) ≡ front ++ x ∷ rest → IsAround (y ∷ ys) x rest
      by later true [] e =
          let same : y ≡ x = cc in
          let others : filter test ys ≡ rest = cc in
          record { front = []; back = ys; is = ap (λ p. p ∷ ys) same; keeps = others }
      by later true (f ∷ fs) e = let next : filter test ys ≡ fs ++ x ∷ rest = cc in one_more y ys x rest (later fs next)
      by later false front e = one_more y ys x rest (later front e)

  -- of two elements that pass both are kept
  pub both_kept : (front : List X) (x : X) (middle : List X) (y : X) (back : List X) → test x ≡ true → test y ≡ true
      → filter test (front ++ x ∷ (middle ++ y ∷ back)) ≡ filter test front ++ x ∷ (filter test middle ++ y ∷ filter test back)
  both_kept front x middle y back p q =
      filter-append test front (x ∷ (middle ++ y ∷ back))
      ∙ ap (λ l. filter test front ++ l)
      (ap (λ b. cond b (x ∷ filter test (middle ++ y ∷ back)) (filter test (middle ++ y ∷ back))) p
      ∙ ap (λ l. x ∷ l)
      (filter-append test middle (y ∷ back) ∙ ap (λ l. filter test middle ++ l) (ap (λ b. cond b (y ∷ filter test back) (filter test back)) q)))
