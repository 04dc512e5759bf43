-- What is wrong with queries, from what the code saw of them.
use Rattle.std.proofs.Common.{◌≡◌, ℕ, Bool, true, false, ◌||◌, List, [], ◌∷◌, codes, ◌⊎◌, inl, inr, refl, sym, ap, ◌∙◌, subst, arith, Contains}
use Rattle.std.proofs.lemmas.Slice.Eq.{bytes_eq-Decides}
use Rattle.std.specs.Str.{bytes_eq}
use Rattle.api_http.specs.Query.{Pair, is_among, QueryFault, unknown, repeated, outside, both, missing, HasSeveral, IsBadPair}

-- ---- two names that are allowed are the same, or `keys` and `prefix`

abbrev Pairs_off : List ℕ → List ℕ → Type 0
Pairs_off n m = ((n ≡ m) ⊎ ((n ≡ codes "keys") × (m ≡ codes "prefix"))) ⊎ ((n ≡ codes "prefix") × (m ≡ codes "keys"))

abbrev pub Few : List (List ℕ) → Type 0
Few allowed = (n m : List ℕ) → is_among allowed n ≡ true → is_among allowed m ≡ true → Pairs_off n m

or_false : (b : Bool) → (b || false) ≡ true → b ≡ true
or_false true h = refl
or_false false h = h

is_one : (x n : List ℕ) → is_among (x ∷ []) n ≡ true → n ≡ x
is_one x n h = (bytes_eq-Decides n x).0 (or_false (bytes_eq n x) h)

or_either : (a b : Bool) → (a || b) ≡ true → (a ≡ true) ⊎ (b ≡ true)
or_either true b h = inl refl
or_either false b h = inr h

is_either : (x y n : List ℕ) → is_among (x ∷ y ∷ []) n ≡ true → (n ≡ x) ⊎ (n ≡ y)
is_either x y n h = elim (or_either (bytes_eq n x) (is_among (y ∷ []) n) h) [ inl e ↦ inl ((bytes_eq-Decides n x).0 e) | inr e ↦ inr (is_one y n e) ]

-- no names are few
pub few_none : Few []
few_none n m a b = cc

-- one name is
pub few_one : (x : List ℕ) → Few (x ∷ [])
few_one x n m a b = inl (inl (is_one x n a ∙ sym (is_one x m b)))

-- `keys` and `prefix` are
pub few_two : Few (codes "keys" ∷ codes "prefix" ∷ [])
few_two n m a b = by (is_either _ _ n a) (is_either _ _ m b)
  where
    by : ((n ≡ codes "keys") ⊎ (n ≡ codes "prefix")) → ((m ≡ codes "keys") ⊎ (m ≡ codes "prefix")) → Pairs_off n m
    by (inl p) (inl q) = inl (inl (p ∙ sym q))
    by (inl p) (inr q) = inl (inr (p, q))
    by (inr p) (inl q) = inr (p, q)
    by (inr p) (inr q) = inl (inl (p ∙ sym q))

-- ---- several pairs

first_one : (p : Pair) (ps : List Pair) → Contains (p ∷ ps) p
first_one p ps = (0, omega arith, refl)

second_one : (p q : Pair) (ps : List Pair) → Contains (p ∷ q ∷ ps) q
second_one p q ps = (1, omega arith, refl)

two : (allowed wanted : List (List ℕ)) → Few allowed → (p q : Pair) (ps : List Pair) → QueryFault allowed wanted (p ∷ q ∷ ps)
two allowed wanted few p q ps = first (is_among allowed p.0) refl
  where
    of_names : Pairs_off p.0 q.0 → QueryFault allowed wanted (p ∷ q ∷ ps)
    of_names (inl (inl same)) = repeated p.0 p.1 q.1 [] [] ps (ap (λ n. p ∷ (n, q.1) ∷ ps) (sym same))
    of_names (inl (inr (keys, prefix))) = both p.1 q.1 (subst (λ n. Contains (p ∷ q ∷ ps) (n, p.1)) keys (first_one p (q ∷ ps)))
        (subst (λ n. Contains (p ∷ q ∷ ps) (n, q.1)) prefix (second_one p q ps))
    of_names (inr (prefix, keys)) = both q.1 p.1 (subst (λ n. Contains (p ∷ q ∷ ps) (n, q.1)) keys (second_one p q ps))
        (subst (λ n. Contains (p ∷ q ∷ ps) (n, p.1)) prefix (first_one p (q ∷ ps)))

    second : (b : Bool) → is_among allowed q.0 ≡ b → is_among allowed p.0 ≡ true → QueryFault allowed wanted (p ∷ q ∷ ps)
    second true is is' = of_names (few p.0 q.0 is' is)
    second false is is' = unknown q.0 q.1 (second_one p q ps) is

    first : (b : Bool) → is_among allowed p.0 ≡ b → QueryFault allowed wanted (p ∷ q ∷ ps)
    first true is = second (is_among allowed q.0) refl is
    first false is = unknown p.0 p.1 (first_one p (q ∷ ps)) is

-- where few names are allowed, several pairs are at fault
pub several : (allowed wanted : List (List ℕ)) (pairs : List Pair) → Few allowed → HasSeveral pairs → QueryFault allowed wanted pairs
several allowed wanted pairs few (p, q, ps, is) = subst (QueryFault allowed wanted) (sym is) (two allowed wanted few p q ps)

-- a bad pair alone is at fault
pub bad_pair : (allowed wanted : List (List ℕ)) (pairs : List Pair) (name value : List ℕ) → pairs ≡ (name, value) ∷ [] → IsBadPair allowed name value
    → QueryFault allowed wanted pairs
bad_pair allowed wanted pairs name value is (inl strange) = subst (QueryFault allowed wanted) (sym is) (unknown name value (first_one (name, value) []) strange)
bad_pair allowed wanted pairs name value is (inr wrong) = subst (QueryFault allowed wanted) (sym is) (outside name value (first_one (name, value) []) wrong)

-- where no pair may be, one is at fault
pub one_too_many : (wanted : List (List ℕ)) (pairs : List Pair) (p : Pair) → pairs ≡ p ∷ [] → QueryFault [] wanted pairs
one_too_many wanted pairs p is = subst (QueryFault [] wanted) (sym is) (unknown p.0 p.1 (first_one p []) refl)

-- where a pair is wanted, none is at fault
pub nothing_there : (allowed : List (List ℕ)) (name : List ℕ) (pairs : List Pair) → pairs ≡ [] → QueryFault allowed (name ∷ []) pairs
nothing_there allowed name pairs is = subst (QueryFault allowed (name ∷ [])) (sym is)
    (missing name (0, omega arith, refl) (λ value (k, within, _). absurd (omega (arith, within))))
