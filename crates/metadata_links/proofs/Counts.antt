-- Counts of steps, and the greatest length that has a list.
use Rattle.std.proofs.Common.{arith, ◌≡◌, ◌+◌, ◌-◌, ◌<◌, ◌≤◌, ℕ, zero, suc, List, [], ◌∷◌, ◌++◌, fold, get_or}
use Rattle.std.proofs.Common.{length, length-drop, take, drop, min, max, Some, is_some, unwrap_or, Bool, true, false, refl, sym, ◌∙◌, ap}
use Rattle.std.specs.FinMap.{get, empty}
use Rattle.std.specs.declared.cmp.Ordering.{Ordering}
use Rattle.std.specs.declared.cmp.Ordering.TheVariants.{Less, Equal, Greater}
use Rattle.std.specs.Ordering.{MatchOrdering, is_ne, nat_cmp, ordering_then}
use Rattle.std.proofs.lemmas.Cmp.{ranked}
use Rattle.key_names.specs.Order.{bytes_cmp, key_cmp}
use Rattle.std.proofs.lemmas.Bool.{cond-true, cond-false}
use Rattle.metadata_links.specs.Nearest.{Lists, greatest, has_list, near_len, list_at, near, steps_to, all_steps, stepped}
use Rattle.metadata_links.specs.Rising.{Names, with_member, set_of}
use Rattle.metadata_links.proofs.Named.{set_grown}
use Rattle.metadata_links.proofs.Rests.{rest_here, rest_all}
use Rattle.std.specs.List.{flat_map}

-- So many steps and then more.
pub stepped_more : (count a b c : ℕ) → c ≡ a + b → stepped (stepped count a) b ≡ stepped count c
stepped_more count a b c is = omega (arith, is)

-- A count never falls.
pub stepped_rises : (count a : ℕ) → count ≤ stepped count a
stepped_rises count a = omega arith

pub greatest_hit : (test : ℕ → Bool) (n : ℕ) → 0 < n → test n ≡ true → greatest test n ≡ n
greatest_hit test zero low is = absurd (omega arith)
greatest_hit test (suc n) low is = cond-true _ _ _ is

pub greatest_miss : (test : ℕ → Bool) (n m : ℕ) → n ≡ m + 1 → test n ≡ false → greatest test n ≡ greatest test m
greatest_miss test zero m one is = absurd (omega (arith, one))
greatest_miss test (suc n) m one is = cond-false _ _ _ is ∙ ap (greatest test) (let same : n ≡ m = omega (arith, one) in same)

module _ (index : Lists) (key : List (List ℕ)) where
  -- The list that is found at a length, where no greater one has a list, is the nearest.
  pub near_found : (len : ℕ) (list : List (List ℕ)) → 0 < len → greatest (has_list index key) len ≡ near_len index key → get index (take len key) ≡ Some list
      → list ≡ near index key
  near_found zero list low so_far is = absurd (omega arith)
  near_found (suc n) list low so_far is =
      let here : near_len index key ≡ suc n = sym so_far ∙ greatest_hit (has_list index key) (suc n) low (ap is_some is) in
      sym (ap (list_at index key) here ∙ ap (λ o. unwrap_or o []) is)

  pub near_at : (len : ℕ) → 0 < len → greatest (has_list index key) len ≡ near_len index key → is_some (get index (take len key)) ≡ true
      → near_len index key ≡ len
  near_at len low so_far is = sym so_far ∙ greatest_hit (has_list index key) len low is

  -- Where no length has a list, the nearest is empty.
  pub near_none : greatest (has_list index key) 0 ≡ near_len index key → [] ≡ near index key
  near_none so_far = sym (ap (list_at index key) (sym so_far))

  -- The steps down to the length that has a list.
  pub steps_found : (start probes now len : ℕ) → 0 < len → len ≤ length key → near_len index key ≡ len → probes ≡ stepped start (length key - len)
      → now ≡ stepped probes 1 → now ≡ stepped start (steps_to index key)
  steps_found start probes now len low high is counted step = step ∙ ap (λ c. stepped c 1) counted
      ∙ stepped_more start (length key - len) 1 (steps_to index key) (ap (λ n. length key + 1 - max 1 n) is ∙ omega arith)

  -- One length that has no list.
  pub steps_more : (start probes now len : ℕ) → 0 < len → len ≤ length key → probes ≡ stepped start (length key - len) → now ≡ stepped probes 1
      → now ≡ stepped start (length key - (len - 1))
  steps_more start probes now len low high counted step = step ∙ ap (λ c. stepped c 1) counted
      ∙ stepped_more start (length key - len) 1 (length key - (len - 1)) (omega arith)

-- ---- the order of a key and a prefix of another

nat_equal : (m n : ℕ) → m ≡ n → nat_cmp m n ≡ Equal
nat_equal m n e = by (nat_cmp m n) refl (ranked m n (nat_cmp m n) refl) where
  by : (r : Ordering) → nat_cmp m n ≡ r → MatchOrdering r (m < n) (m ≡ n) (n < m) → nat_cmp m n ≡ Equal
  by Less is lt = absurd (omega (arith, lt, e))
  by Equal is eq = is
  by Greater is gt = absurd (omega (arith, gt, e))

nat_less : (m n : ℕ) → m < n → nat_cmp m n ≡ Less
nat_less m n l = by (nat_cmp m n) refl (ranked m n (nat_cmp m n) refl) where
  by : (r : Ordering) → nat_cmp m n ≡ r → MatchOrdering r (m < n) (m ≡ n) (n < m) → nat_cmp m n ≡ Less
  by Less is lt = is
  by Equal is eq = absurd (omega (arith, eq, l))
  by Greater is gt = absurd (omega (arith, gt, l))

nat_greater : (m n : ℕ) → n < m → nat_cmp m n ≡ Greater
nat_greater m n g = by (nat_cmp m n) refl (ranked m n (nat_cmp m n) refl) where
  by : (r : Ordering) → nat_cmp m n ≡ r → MatchOrdering r (m < n) (m ≡ n) (n < m) → nat_cmp m n ≡ Greater
  by Less is lt = absurd (omega (arith, lt, g))
  by Equal is eq = absurd (omega (arith, eq, g))
  by Greater is gt = is

-- First segments that differ decide.
pub differs_at : (xs ys : List (List ℕ)) (x y : List ℕ) (rest more : List (List ℕ)) (r all : Ordering) → xs ≡ x ∷ rest → ys ≡ y ∷ more → r ≡ bytes_cmp x y
    → is_ne r ≡ true → key_cmp xs ys ≡ all → r ≡ all
differs_at xs ys x y rest more r all first second told ne whole = sym (by r told ne) ∙ sym (ap (λ l. key_cmp l ys) first ∙ ap (key_cmp (x ∷ rest)) second)
    ∙ whole where
      by : (r : Ordering) → r ≡ bytes_cmp x y → is_ne r ≡ true → key_cmp (x ∷ rest) (y ∷ more) ≡ r
      by Less told ne = ap (λ r. ordering_then r (key_cmp rest more)) (sym told)
      by Equal told ne = absurd (cc ne)
      by Greater told ne = ap (λ r. ordering_then r (key_cmp rest more)) (sym told)

-- Segments that tie leave it to the others.
pub ties_at : (xs ys : List (List ℕ)) (x y : List ℕ) (rest more : List (List ℕ)) (r all : Ordering) → xs ≡ x ∷ rest → ys ≡ y ∷ more → r ≡ bytes_cmp x y
    → is_ne r ≡ false → key_cmp xs ys ≡ all → key_cmp rest more ≡ all
ties_at xs ys x y rest more r all first second told eq whole = sym (by r told eq) ∙ sym (ap (λ l. key_cmp l ys) first ∙ ap (key_cmp (x ∷ rest)) second)
    ∙ whole where
      by : (r : Ordering) → r ≡ bytes_cmp x y → is_ne r ≡ false → key_cmp (x ∷ rest) (y ∷ more) ≡ key_cmp rest more
      by Less told eq = absurd (cc eq)
      by Equal told eq = ap (λ r. ordering_then r (key_cmp rest more)) (sym told)
      by Greater told eq = absurd (cc eq)

-- Where one of the two is through, their lengths decide.
pub through_at : (xs ys : List (List ℕ)) (i m n : ℕ) → length xs ≡ m → length ys ≡ n → min m n ≤ i → key_cmp (drop i xs) (drop i ys) ≡ key_cmp xs ys
    → (i ≤ min m n) → nat_cmp m n ≡ key_cmp xs ys
through_at xs ys i m n mis nis past whole low = sym (lens (drop i xs) (drop i ys) m n (omega (arith, length-drop i xs)) (omega (arith, length-drop i ys)) past
    low) ∙ whole where
      lens : (us vs : List (List ℕ)) (m n : ℕ) → length us + i ≡ m → length vs + i ≡ n → min m n ≤ i → i ≤ min m n → key_cmp us vs ≡ nat_cmp m n
      lens [] [] m n a b past low = sym (nat_equal m n (omega (arith, a, b)))
      lens [] (v ∷ vs) m n a b past low = sym (nat_less m n (omega (arith, a, b)))
      lens (u ∷ us) [] m n a b past low = sym (nat_greater m n (omega (arith, a, b)))
      lens (u ∷ us) (v ∷ vs) m n a b past low = absurd (omega (arith, a, b, past))

-- ---- the services of keys

pub fold_both : {A B : Type 0} (f : A → B → A) (a : A) (xs ys : List B) → fold f a (xs ++ ys) ≡ fold f (fold f a xs) ys
fold_both f a [] ys = refl
fold_both f a (x ∷ xs) ys = fold_both f (f a x) xs ys

sum_from : {X : Type 0} (f : X → ℕ) (n : ℕ) (xs : List X) → fold (λ a x. a + f x) n xs ≡ n + fold (λ a x. a + f x) 0 xs
sum_from f n [] = omega arith
sum_from f n (x ∷ xs) = omega (arith, sum_from f (n + f x) xs, sum_from f (0 + f x) xs)

steps_next : (index : Lists) (key : List (List ℕ)) (keys : List (List (List ℕ))) → all_steps index (key ∷ keys) ≡ steps_to index key + all_steps index keys
steps_next index key keys = omega (arith, sum_from (λ k. steps_to index k) (0 + steps_to index key) keys)

module _ (index : Lists) (keys : List (List (List ℕ))) (i : ℕ) (key : List (List ℕ)) (low : i < length keys) (is : key ≡ get_or keys i key) where
  -- The nearest list of one key more is put into the set.
  pub named_more : (set now : Names) (list : List (List ℕ)) (all : Names) → fold with_member set (flat_map (near index) (drop i keys)) ≡ all
      → list ≡ near index key → now ≡ fold with_member set list → fold with_member now (flat_map (near index) (drop (i + 1) keys)) ≡ all
  named_more set now list all whole nearest put =
      ap (λ s. fold with_member s (flat_map (near index) (drop (i + 1) keys))) (put ∙ ap (fold with_member set) nearest)
      ∙ sym (fold_both with_member set (near index key) (flat_map (near index) (drop (i + 1) keys)))
      ∙ rest_here (λ ks. fold with_member set (flat_map (near index) ks)) keys i key all low is whole

  -- And its steps are counted.
  pub counted_more : (probes now all : ℕ) → stepped probes (all_steps index (drop i keys)) ≡ all → now ≡ stepped probes (steps_to index key)
      → stepped now (all_steps index (drop (i + 1) keys)) ≡ all
  counted_more probes now all whole step =
      ap (λ c. stepped c (all_steps index (drop (i + 1) keys))) step ∙ stepped_more probes (steps_to index key) (all_steps index (drop (i + 1) keys))
      (all_steps index (key ∷ drop (i + 1) keys)) (steps_next index key (drop (i + 1) keys))
      ∙ rest_here (λ ks. stepped probes (all_steps index ks)) keys i key all low is whole

  -- Running out of memory leaves the count between.
  pub between_low : (start probes now : ℕ) → start ≤ probes → now ≡ stepped probes (steps_to index key) → start ≤ now
  between_low start probes now before step = omega (arith, stepped_rises probes (steps_to index key), step)

-- When all keys are through, the set is that of all their lists.
pub named_all : (index : Lists) (keys : List (List (List ℕ))) (i : ℕ) (set : Names) → length keys ≤ i
    → fold with_member set (flat_map (near index) (drop i keys)) ≡ fold with_member empty (flat_map (near index) keys)
    → set ≡ set_of (flat_map (near index) keys)
named_all index keys i set past whole = rest_all (λ ks. fold with_member set (flat_map (near index) ks)) keys i _ past whole
    ∙ set_grown [] (flat_map (near index) keys)
