-- One moment of a run, and the last number that has come by then.
use Rattle.std.proofs.Common.{◌≡◌, ◌⊎◌, inl, inr, ℕ, zero, suc, ◌≤◌, List, [], ◌∷◌, ◌++◌, take, refl, ap, subst, arith}
use Rattle.outside.specs.Tree.{Tree}
use Rattle.outside.specs.History.{History, begun, next, EachCrashState}
use Rattle.outside.specs.Since.{EachSince, clock}

-- The clock never falls from one moment to a later one.
pub clock_later : (P : Tree → Type 0) (old new : History) → EachSince P old new → clock old ≤ clock new
clock_later P old (begun tree) (is, here) = let e = ap clock is in omega arith
clock_later P old (next change h) (inl is, here) = let e = ap clock is in omega arith
clock_later P old (next change h) (inr more, here) = let le = clock_later P old h more in omega arith

-- What each crash state has since a moment, those of a later moment have.
pub since_at : (P Q : Tree → Type 0) (old at new : History) → EachSince P old new → clock old ≤ clock at → EachSince Q at new → EachCrashState P at
since_at P Q old at (begun tree) (is, here) le (same, any) = subst (EachCrashState P) same here
since_at P Q old at (next change h) (any, here) le (inl same, some) = subst (EachCrashState P) same here
since_at P Q old at (next change h) (inl is, here) le (inr more, some) =
    let e = ap clock is in let later = clock_later Q at h more in absurd (omega arith)
since_at P Q old at (next change h) (inr since, rest) le (inr more, some) = since_at P Q old at h since le more

-- A moment that is no earlier than a later one is that one.
pub same_moment : (P : Tree → Type 0) (old new : History) → EachSince P old new → clock new ≤ clock old → new ≡ old
same_moment P old (begun tree) (is, here) le = is
same_moment P old (next change h) (inl is, here) le = is
same_moment P old (next change h) (inr more, here) le = let later = clock_later P old h more in absurd (omega arith)

-- The greatest number up to a bound that has a decided property, or there is none.
pub record Greatest (P : ℕ → Type 0) (bound : ℕ) : Type 0 where
  pub number : ℕ
  pub has : P number
  pub most : (m : ℕ) → m ≤ bound → P m → m ≤ number

at_most : (m n : ℕ) → m ≤ suc n → (m ≤ n) ⊎ (m ≡ suc n)
at_most zero n le = inl (omega arith)
at_most (suc m) zero le = inr (omega arith)
at_most (suc m) (suc n) le = elim (at_most m n (omega arith)) [ inl less ↦ inl (omega arith) | inr same ↦ inr (ap suc same) ]

pub greatest : (P : ℕ → Type 0) → ((n : ℕ) → P n ⊎ (P n → ⊥)) → (bound : ℕ) → Greatest P bound ⊎ ((m : ℕ) → m ≤ bound → P m → ⊥)
greatest P decide zero = by (decide 0) where
  by : P 0 ⊎ (P 0 → ⊥) → Greatest P 0 ⊎ ((m : ℕ) → m ≤ 0 → P m → ⊥)
  by (inl holds) = inl (record { number = 0; has = holds; most = λ m le is. le })
  by (inr fails) = inr (λ m le is. let none : m ≡ 0 = omega arith in fails (subst P none is))
greatest P decide (suc bound) = by (decide (suc bound)) (greatest P decide bound) where
  lower : (m : ℕ) → m ≤ suc bound → (m ≤ bound) ⊎ (m ≡ suc bound)
  lower m le = at_most m bound le

  by : P (suc bound) ⊎ (P (suc bound) → ⊥) → Greatest P bound ⊎ ((m : ℕ) → m ≤ bound → P m → ⊥)
      → Greatest P (suc bound) ⊎ ((m : ℕ) → m ≤ suc bound → P m → ⊥)
  by (inl holds) below = inl (record { number = suc bound; has = holds; most = λ m le is. le })
  by (inr fails) (inl g) = inl (record {
    number = g.number;
    has = g.has;
    most = λ m le is. elim (lower m le) [ inl less ↦ g.most m less is | inr same ↦ absurd (fails (subst P same is)) ];
  })
  by (inr fails) (inr none) = inr (λ m le is. elim (lower m le) [ inl less ↦ none m less is | inr same ↦ fails (subst P same is) ])

-- The first events are the first of more of them.
pub take_more : {X : Type 0} (m n : ℕ) (xs : List X) → m ≤ n → (more : List X) × (take n xs ≡ take m xs ++ more)
take_more zero n [] le = (take n [], refl)
take_more (suc m) zero [] le = ([], refl)
take_more (suc m) (suc n) [] le = ([], refl)
take_more zero n (x ∷ xs) le = (take n (x ∷ xs), refl)
take_more (suc m) zero (x ∷ xs) le = absurd (omega arith)
take_more (suc m) (suc n) (x ∷ xs) le = let rest = take_more m n xs (omega arith) in (rest.0, ap (λ ys. x ∷ ys) rest.1)
