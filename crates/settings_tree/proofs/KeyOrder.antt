-- Prefixes and the order of keys.
use Rattle.std.proofs.Common.{arith, ◌≡◌, List, [], ◌∷◌, ◌++◌, Bool, true, false, ◌&&◌, refl, sym, ◌∙◌, ap, IsTrue, ◌⊎◌, inl, inr, subst, ℕ}
use Rattle.std.specs.declared.cmp.Ordering.{Ordering}
use Rattle.std.specs.declared.cmp.Ordering.TheVariants.{Less, Equal, Greater}
use Rattle.std.specs.Ordering.{eq_by_cmp, is_eq, is_gt, ordering_then, ordering_reverse}
use Rattle.key_names.specs.Key.{is_prefix}
use Rattle.key_names.specs.Order.{key_cmp, bytes_cmp, bytes_total, bytes_cmp-IsAntisymmetric}

tied_by' : (r : Ordering) → is_eq r ≡ true → r ≡ Equal
tied_by' Less e = grind arith
tied_by' Equal e = refl
tied_by' Greater e = grind arith

first_of : (a b : Bool) → IsTrue (a && b) → IsTrue a
first_of true b e = refl
first_of false b e = e

second_of : (a b : Bool) → IsTrue (a && b) → IsTrue b
second_of true b e = e
second_of false b e = grind arith

-- The first segments are one.
heads : (p k : List ℕ) (ps ks : List (List ℕ)) → IsTrue (is_prefix (p ∷ ps) (k ∷ ks)) → (p ≡ k) × IsTrue (is_prefix ps ks)
heads p k ps ks is = (
  bytes_cmp-IsAntisymmetric p k (tied_by' (bytes_cmp p k) (first_of (eq_by_cmp bytes_cmp p k) _ is)),
  second_of (eq_by_cmp bytes_cmp p k) _
      is,
)

no_more : (p : List ℕ) (ps : List (List ℕ)) → IsTrue (is_prefix (p ∷ ps) []) → ⊥
no_more p ps is = grind arith

with_head : (p x : List ℕ) (ps xs : List (List ℕ)) → bytes_cmp p x ≡ Equal → IsTrue (is_prefix ps xs) → IsTrue (is_prefix (p ∷ ps) (x ∷ xs))
with_head p x ps xs same is = ap (λ r. is_eq r && is_prefix ps xs) same ∙ is

between_heads : (r : Ordering) (p x : List ℕ) (ps xs ks : List (List ℕ)) → bytes_cmp p x ≡ r → is_gt (ordering_then r (key_cmp ps xs)) ≡ false
    → is_gt (ordering_then (ordering_reverse r) (key_cmp xs ks)) ≡ false
    → ((is_gt (key_cmp ps xs) ≡ false) → (is_gt (key_cmp xs ks) ≡ false) → IsTrue (is_prefix ps xs)) → IsTrue (is_prefix (p ∷ ps) (x ∷ xs))
between_heads Less p x ps xs ks is low high rest = absurd (grind arith)
between_heads Equal p x ps xs ks is low high rest = with_head p x ps xs is (rest low high)
between_heads Greater p x ps xs ks is low high rest = absurd (grind arith)

-- What lies between a key and one that begins with it begins with it too.
pub between : (p x k : List (List ℕ)) → IsTrue (is_prefix p k) → is_gt (key_cmp p x) ≡ false → is_gt (key_cmp x k) ≡ false → IsTrue (is_prefix p x)
between [] x k is low high = refl
between (p ∷ ps) [] k is low high = absurd (grind arith)
between (p ∷ ps) (x ∷ xs) [] is low high = absurd (no_more p ps is)
between (p ∷ ps) (x ∷ xs) (k ∷ ks) is low high =
    let parts : (p ≡ k) × IsTrue (is_prefix ps ks) = heads p k ps ks is in
    between_heads (bytes_cmp p x) p x ps xs ks refl low
    (subst (λ r. is_gt (ordering_then r (key_cmp xs ks)) ≡ false) (bytes_total.antisymm x p)
    (subst (λ c. is_gt (ordering_then (bytes_cmp x c) (key_cmp xs ks)) ≡ false) (sym parts.0) high))
    (λ l h. between ps xs ks parts.1 l h)

both_heads : (p k : List ℕ) (ps ks : List (List ℕ)) → IsTrue (is_prefix (p ∷ ps) (k ∷ ks)) → (ps ≡ ks) ⊎ (key_cmp ps ks ≡ Less)
    → (p ∷ ps ≡ k ∷ ks) ⊎ (key_cmp (p ∷ ps) (k ∷ ks) ≡ Less)
both_heads p k ps ks is (inl e) = inl (ap (λ (h : List ℕ). h ∷ ps) ((heads p k ps ks is).0) ∙ ap (λ (t : List (List ℕ)). k ∷ t) e)
both_heads p k ps ks is (inr l) = inr (ap (λ r. ordering_then r (key_cmp ps ks)) (tied_by' (bytes_cmp p k) (first_of (eq_by_cmp bytes_cmp p k) _ is)) ∙ l)

-- A key that another begins with is that one, or comes before it.
pub prefix_order : (p k : List (List ℕ)) → IsTrue (is_prefix p k) → (p ≡ k) ⊎ (key_cmp p k ≡ Less)
prefix_order [] [] is = inl refl
prefix_order [] (k ∷ ks) is = inr refl
prefix_order (p ∷ ps) [] is = absurd (no_more p ps is)
prefix_order (p ∷ ps) (k ∷ ks) is = both_heads p k ps ks is (prefix_order ps ks ((heads p k ps ks is).1))

-- What begins with a key is that key and more.
pub prefix_splits : (p k : List (List ℕ)) → IsTrue (is_prefix p k) → (rest : List (List ℕ)) × (k ≡ p ++ rest)
prefix_splits [] k is = (k, refl)
prefix_splits (p ∷ ps) [] is = absurd (no_more p ps is)
prefix_splits (p ∷ ps) (k ∷ ks) is =
    let parts = heads p k ps ks is in
    let r = prefix_splits ps ks parts.1 in
    (r.0, ap (λ (h : List ℕ). h ∷ ks) (sym parts.0) ∙ ap (λ (t : List (List ℕ)). p ∷ t) r.1)
