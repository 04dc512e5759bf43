-- Pairs of a list, and files whose paths rise with none below the one before it.
use Rattle.std.proofs.Common.{arith, ◌≡◌, ◌+◌, ◌-◌, ◌<◌, ◌≤◌, ℕ, zero, suc, List, [], ◌∷◌, length, get_or, map, filter, take}
use Rattle.std.proofs.Common.{cond, not, Some, None, Bool, true, false, true≢false, nat_lt, Less, Equal, Greater, Bor, refl, sym, ◌∙◌, ap, subst}
use Rattle.std.specs.Prelude.{◌||◌, ◌&&◌}
use Rattle.std.specs.declared.cmp.Ordering.{Ordering}
use Rattle.std.specs.Ordering.{eq_by_cmp, is_lt, is_eq, ordering_then, ordering_reverse}
use Rattle.std.specs.Cmp.{eq_by_cmp_equiv}
use Rattle.std.specs.Cmp.Lexicographic.{pointwise}
use Rattle.std.specs.List.{find, IsDistinct, AllByRecursion}
use Rattle.std.specs.List.Sorted.{IsPermutation}
use Rattle.std.specs.Option.{option_map, option_or}
use Rattle.std.proofs.lemmas.Bool.{cond-false, ltb-true, ltb-false}
use Rattle.std.proofs.lemmas.Cmp.{tied_itself}
use Rattle.std.proofs.lemmas.List.{get_or-map, length-map}
use Rattle.std.proofs.lemmas.List.Folds.{find-append}
use Rattle.std.proofs.lemmas.List.Sorted.{IsPermutation-map, IsPermutation-sym}
use Rattle.std.proofs.lemmas.Map.Keys.{IsDistinct-head, IsDistinct-tail, IsDistinct-from_apart, IsDistinct-IsPermutation}
use Rattle.key_names.specs.Order.{bytes_total, bytes_cmp-IsAntisymmetric, key_total}
use Rattle.outside.specs.Names.{Names, name_cmp, same_name, path_cmp, is_below}
use Rattle.metadata_links.specs.Faults.{first_of, pairs_of}
use Rattle.metadata_links.specs.Paths.{clash_in, is_apart_before}
use Rattle.metadata_links.specs.declared.file_row.FileRow.{FileRow}
use Rattle.metadata_links.specs.declared.paths.Clash.{Clash}
use Rattle.metadata_links.specs.declared.paths.Clash.TheVariants.{Same, Nested}

-- ---- pairs

module _ {X : Type 0} (t : X → X → Bool) where
  find_paired : (x : X) (ys : List X) → find (λ (q : X × X). t q.0 q.1) (map (λ y. (x, y)) ys) ≡ option_map (λ y. (x, y)) (find (t x) ys)
  find_paired x [] = refl
  find_paired x (y ∷ ys) = by (t x y) (find_paired x ys) where
    by : (b : Bool) → find (λ (q : X × X). t q.0 q.1) (map (λ y. (x, y)) ys) ≡ option_map (λ y. (x, y)) (find (t x) ys)
        → cond b (Some (x, y)) (find (λ (q : X × X). t q.0 q.1) (map (λ y. (x, y)) ys)) ≡ option_map (λ y. (x, y)) (cond b (Some y) (find (t x) ys))
    by true rest = refl
    by false rest = rest

  first_pairs : (x : X) (ys : List X) → find (λ (q : X × X). t q.0 q.1) (pairs_of (x ∷ ys)) ≡ option_or (option_map (λ y. (x, y)) (find (t x) ys))
      (find (λ (q : X × X). t q.0 q.1) (pairs_of ys))
  first_pairs x ys = find-append (λ (q : X × X). t q.0 q.1) (map (λ y. (x, y)) ys) (pairs_of ys)
      ∙ ap (λ o. option_or o (find (λ (q : X × X). t q.0 q.1) (pairs_of ys))) (find_paired x ys)

  -- The first pair begins with the first element, where this clashes with a later one.
  pub pair_here : (x y : X) (ys : List X) → find (t x) ys ≡ Some y → find (λ (q : X × X). t q.0 q.1) (pairs_of (x ∷ ys)) ≡ Some (x, y)
  pair_here x y ys is = first_pairs x ys ∙ ap (λ o. option_or (option_map (λ y. (x, y)) o) (find (λ (q : X × X). t q.0 q.1) (pairs_of ys))) is

  -- And else it is among the others.
  pub pair_later : (x : X) (ys : List X) → find (t x) ys ≡ None → find (λ (q : X × X). t q.0 q.1) (pairs_of (x ∷ ys)) ≡ find (λ (q : X × X). t q.0 q.1)
      (pairs_of ys)
  pair_later x ys is = first_pairs x ys ∙ ap (λ o. option_or (option_map (λ y. (x, y)) o) (find (λ (q : X × X). t q.0 q.1) (pairs_of ys))) is

  find_none : (x : X) (ys : List X) → AllByRecursion (λ y. t x y ≡ false) ys → find (t x) ys ≡ None
  find_none x [] all = refl
  find_none x (y ∷ ys) all = cond-false _ _ _ all.0 ∙ find_none x ys all.1

  -- Where no two elements clash, no pair does.
  pub none_distinct : (xs : List X) → IsDistinct t xs → find (λ (q : X × X). t q.0 q.1) (pairs_of xs) ≡ None
  none_distinct [] apart = refl
  none_distinct (x ∷ xs) apart = pair_later x xs (find_none x xs (IsDistinct-head t x xs apart)) ∙ none_distinct xs (IsDistinct-tail t x xs apart)

module _ {X E : Type 0} (f : X → E) (p : X → Bool) where
  -- What is found first is the first of what passes.
  pub found_first : (xs : List X) (x : X) → find p xs ≡ Some x → first_of (map f (filter p xs)) ≡ Some (f x)
  found_first [] x is = absurd (cc is)
  found_first (y ∷ ys) x is = by (p y) is (found_first ys x) where
    by : (b : Bool) → cond b (Some y) (find p ys) ≡ Some x → (find p ys ≡ Some x → first_of (map f (filter p ys)) ≡ Some (f x))
        → first_of (map f (cond b (y ∷ filter p ys) (filter p ys))) ≡ Some (f x)
    by true is rest = let same : y ≡ x = cc is in ap (λ z. Some (f z)) same
    by false is rest = rest is

  -- Where nothing is found, nothing passes.
  pub found_none : (xs : List X) → find p xs ≡ None → map f (filter p xs) ≡ []
  found_none [] is = refl
  found_none (y ∷ ys) is = by (p y) is (found_none ys) where
    by : (b : Bool) → cond b (Some y) (find p ys) ≡ None → (find p ys ≡ None → map f (filter p ys) ≡ []) → map f (cond b (y ∷ filter p ys) (filter p ys)) ≡ []
    by true is rest = absurd (cc is)
    by false is rest = rest is

-- ---- paths

tied : (r : Ordering) → is_eq r ≡ true → r ≡ Equal
tied Less e = absurd (grind arith)
tied Equal e = refl
tied Greater e = absurd (grind arith)

-- At the first names that differ, that of the first path comes first.
before_then : Ordering → Bool → Bool
before_then Less others = true
before_then Equal others = others
before_then Greater others = false

before : Names → Names → Bool
unfolding before_then
before (x ∷ one) (y ∷ other) = before_then (name_cmp x y) (before one other)
before _ other = false

lt_suc : (m n : ℕ) → nat_lt (suc m) (suc n) ≡ nat_lt m n
lt_suc m n = by (nat_lt (suc m) (suc n)) refl (nat_lt m n) refl where
  by : (a : Bool) → nat_lt (suc m) (suc n) ≡ a → (b : Bool) → nat_lt m n ≡ b → nat_lt (suc m) (suc n) ≡ nat_lt m n
  by true a true b = a ∙ sym b
  by false a false b = a ∙ sym b
  by true a false b = let low : suc m < suc n = ltb-true (suc m) (suc n) a in let high : n ≤ m = ltb-false m n b in absurd (omega (arith, low, high))
  by false a true b = let high : suc n ≤ suc m = ltb-false (suc m) (suc n) a in let low : m < n = ltb-true m n b in absurd (omega (arith, low, high))

lt_zero : (n : ℕ) → nat_lt 0 (suc n) ≡ true
lt_zero n = by (nat_lt 0 (suc n)) refl where
  by : (a : Bool) → nat_lt 0 (suc n) ≡ a → nat_lt 0 (suc n) ≡ true
  by true a = a
  by false a = let high : suc n ≤ 0 = ltb-false 0 (suc n) a in absurd (omega (arith, high))

below_more : (x y : List ℕ) (one other : Names) → name_cmp x y ≡ Equal → is_below (x ∷ one) (y ∷ other) ≡ is_below one other
below_more x y one other tie =
    ap (λ b. b && (eq_by_cmp name_cmp x y && pointwise same_name one (take (length one) other))) (lt_suc (length one) (length other))
    ∙ ap (λ r. nat_lt (length one) (length other) && (is_eq r && pointwise same_name one (take (length one) other))) tie

-- What is apart before another is before it.
before_is : (one other : Names) → is_apart_before one other ≡ true → before one other ≡ true
unfolding before before_then
before_is [] [] is = absurd (true≢false (sym is))
before_is [] (y ∷ other) is = absurd (true≢false (sym is ∙ ap (λ b. not (b && true)) (lt_zero (length other))))
before_is (x ∷ one) [] is = absurd (true≢false (sym is))
before_is (x ∷ one) (y ∷ other) is = by (name_cmp x y) refl (before_is one other) where
  by : (r : Ordering) → name_cmp x y ≡ r → (is_apart_before one other ≡ true → before one other ≡ true) → before_then (name_cmp x y) (before one other) ≡ true
  by Less e rest = ap (λ r. before_then r (before one other)) e
  by Equal e rest =
      ap (λ r. before_then r (before one other)) e
      ∙ rest (sym (ap (λ r. is_lt (ordering_then r (path_cmp one other)) && not (is_below one other)) e)
      ∙ ap (λ b. is_lt (ordering_then (name_cmp x y) (path_cmp one other)) && not b) (sym (below_more x y one other e)) ∙ is)
  by Greater e rest = absurd (true≢false (sym is ∙ ap (λ r. is_lt (ordering_then r (path_cmp one other)) && not (is_below (x ∷ one) (y ∷ other))) e))

-- What the first names tell.
data First (x y : List ℕ) (others : Bool) : Type 0 where
  lesser : name_cmp x y ≡ Less → First x y others
  same : x ≡ y → others ≡ true → First x y others

first_is : (x y : List ℕ) (others : Bool) → before_then (name_cmp x y) others ≡ true → First x y others
unfolding before_then
first_is x y others told = by (name_cmp x y) refl told where
  by : (r : Ordering) → name_cmp x y ≡ r → before_then r others ≡ true → First x y others
  by Less e told = lesser e
  by Equal e told = same (bytes_cmp-IsAntisymmetric x y e) told
  by Greater e told = absurd (true≢false (sym told))

before_trans : (p q r : Names) → before p q ≡ true → before q r ≡ true → before p r ≡ true
unfolding before before_then
before_trans [] q r a b = absurd (true≢false (sym a))
before_trans (x ∷ p) [] r a b = absurd (true≢false (sym a))
before_trans (x ∷ p) (y ∷ q) [] a b = absurd (true≢false (sym b))
before_trans (x ∷ p) (y ∷ q) (z ∷ r) a b = join (before_trans p q r) (first_is x y (before p q) a) (first_is y z (before q r) b) where
  less_tells : name_cmp x z ≡ Less → before_then (name_cmp x z) (before p r) ≡ true
  less_tells e = ap (λ o. before_then o (before p r)) e

  join : (before p q ≡ true → before q r ≡ true → before p r ≡ true) → First x y (before p q) → First y z (before q r)
      → before_then (name_cmp x z) (before p r) ≡ true
  join again (lesser a) (lesser b) = less_tells (bytes_total.trans x y z a b)
  join again (lesser a) (same b others) = less_tells (ap (name_cmp x) (sym b) ∙ a)
  join again (same a others) (lesser b) = less_tells (ap (λ w. name_cmp w z) a ∙ b)
  join again (same a others) (same b others') = ap (λ o. before_then o (before p r)) (ap (name_cmp x) (sym (a ∙ b)) ∙ tied_itself bytes_total x)
      ∙ again others others'

-- Paths of which one is before the other neither are one nor is one below the other.
record Apart (p q : Names) : Type 0 where
  unequal : eq_by_cmp path_cmp p q ≡ false
  above : is_below p q ≡ false
  below : is_below q p ≡ false

and_false : (a : Bool) → (a && false) ≡ false
and_false true = refl
and_false false = refl

before_apart : (p q : Names) → before p q ≡ true → Apart p q
unfolding before before_then
before_apart [] q told = absurd (true≢false (sym told))
before_apart (x ∷ p) [] told = absurd (true≢false (sym told))
before_apart (x ∷ p) (y ∷ q) told = by (before_apart p q) (first_is x y (before p q) told) where
  by : (before p q ≡ true → Apart p q) → First x y (before p q) → Apart (x ∷ p) (y ∷ q)
  by again (lesser e) =
      let back : name_cmp y x ≡ Greater = bytes_total.antisymm y x ∙ ap ordering_reverse e in
      record {
        unequal = ap (λ r. is_eq (ordering_then r (path_cmp p q))) e;
        above = ap (λ r. nat_lt (length (x ∷ p)) (length (y ∷ q)) && (is_eq r && pointwise same_name p (take (length p) q))) e ∙ and_false _;
        below = ap (λ r. nat_lt (length (y ∷ q)) (length (x ∷ p)) && (is_eq r && pointwise same_name q (take (length q) p))) back ∙ and_false _;
      }
  by again (same e others) =
      let rest = again others in
      let tie : name_cmp x y ≡ Equal = ap (name_cmp x) (sym e) ∙ tied_itself bytes_total x in
      let back : name_cmp y x ≡ Equal = ap (name_cmp y) e ∙ tied_itself bytes_total y in
      record {
        unequal = ap (λ r. is_eq (ordering_then r (path_cmp p q))) tie ∙ rest.unequal;
        above = below_more x y p q tie ∙ rest.above;
        below = below_more y x q p back ∙ rest.below;
      }

-- ---- files

clash_apart : (clash : Clash) (one other : FileRow) → Apart one.path other.path → clash_in clash one other ≡ false
clash_apart Same one other apart = apart.unequal
clash_apart Nested one other apart = ap (λ b. b || is_below other.path one.path) apart.above ∙ apart.below

or_turned : (a b : Bool) → (a || b) ≡ (b || a)
or_turned true true = refl
or_turned true false = refl
or_turned false true = refl
or_turned false false = refl

flips : (clash : Clash) (one other : FileRow) → clash_in clash one other ≡ clash_in clash other one
flips Same one other = (eq_by_cmp_equiv key_total).symm one.path other.path
flips Nested one other = or_turned (is_below one.path other.path) (is_below other.path one.path)

abbrev Entry : Type 0
Entry = List ℕ × FileRow

module _ (files : List (Bor Entry)) where
  -- Each path is before the next, which isn't below it.
  abbrev pub Rise : Type 0
  Rise = (k : ℕ) (d : Bor Entry) → k + 1 < length files → is_apart_before (get_or files k d).now.1.path (get_or files (k + 1) d).now.1.path ≡ true

  -- So it is before one that is further on.
  far : Rise → (n i j : ℕ) (d : Bor Entry) → j ≡ i + suc n → j < length files → before (get_or files i d).now.1.path (get_or files j d).now.1.path ≡ true
  far next zero i j d is within =
      let j_is : i + 1 ≡ j = omega (arith, is) in
      subst (λ m. before (get_or files i d).now.1.path (get_or files m d).now.1.path ≡ true) j_is (before_is _ _ (next i d (omega (arith, is, within))))
  far next (suc n) i j d is within =
      let j_is : (i + suc n) + 1 ≡ j = omega (arith, is) in
      before_trans (get_or files i d).now.1.path (get_or files (i + suc n) d).now.1.path (get_or files j d).now.1.path
      (far next n i (i + suc n) d refl (omega (arith, is, within)))
      (subst (λ m. before (get_or files (i + suc n) d).now.1.path (get_or files m d).now.1.path ≡ true) j_is
      (before_is _ _ (next (i + suc n) d (omega (arith, is, within)))))

some_file : (files : List (Bor Entry)) (i : ℕ) → i < length files → Bor Entry
some_file [] i within = absurd (omega (arith, within))
some_file (x ∷ files) i within = x

row_in : Bor Entry → FileRow
row_in b = b.now.1

distinct : (clash : Clash) (files : List (Bor Entry)) → Rise files → IsDistinct (clash_in clash) (map row_in files)
unfolding row_in
distinct clash files next = IsDistinct-from_apart (clash_in clash) (map row_in files) (λ i j d before_j within.
    let here : j < length files = omega (arith, within, length-map files row_in) in
    let e = some_file files j here in
    ap (λ x. clash_in clash x (get_or (map row_in files) j d)) (get_or-map row_in files i e d (omega (arith, before_j, here)))
    ∙ ap (clash_in clash (get_or files i e).now.1) (get_or-map row_in files j e d here)
    ∙ clash_apart clash (get_or files i e).now.1 (get_or files j e).now.1
    (before_apart _ _ (far files next (j - (i + 1)) i j e (omega (arith, before_j)) here)))

map_twice : (files : List (Bor Entry)) → map row_in files ≡ map (λ (e : Entry). e.1) (map (λ (b : Bor Entry). b.now) files)
unfolding row_in
map_twice [] = refl
map_twice (x ∷ files) = ap (λ (l : List FileRow). row_in x ∷ l) (map_twice files)

-- No two of the files that were sorted clash.
pub apart_sorted : (clash : Clash) (files : List Entry) (collected sorted : List (Bor Entry)) → map (λ b. b.now) collected ≡ files
    → IsPermutation collected sorted → Rise sorted → find (λ q. clash_in clash q.0 q.1) (pairs_of (map (λ e. e.1) files)) ≡ None
apart_sorted clash files collected sorted is moved next =
    let back = IsPermutation-sym (map row_in collected) (map row_in sorted) (IsPermutation-map row_in collected sorted moved) in
    let apart : IsDistinct (clash_in clash) (map row_in collected) = IsDistinct-IsPermutation (clash_in clash) (flips clash) (map row_in sorted)
    (map row_in collected) back (distinct clash sorted next) in
    none_distinct (clash_in clash) _ (subst (IsDistinct (clash_in clash)) (map_twice collected ∙ ap (map (λ (e : Entry). e.1)) is) apart)
