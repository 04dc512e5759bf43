-- Maps that are read from a list of their entries, one after another.
use Rattle.std.proofs.Common.{◌≡◌, List, [], ◌∷◌, ◌++◌, length, map, Option, Some, None, Bool, true}
use Rattle.std.proofs.Common.{false, cond, IsSome, T, fold, append_assoc, append-nil, refl, sym, ap, ◌∙◌, subst, arith}
use Rattle.std.specs.declared.cmp.Ordering.{Ordering}
use Rattle.std.specs.declared.cmp.Ordering.TheVariants.{Less, Equal, Greater}
use Rattle.std.specs.Ordering.{eq_by_cmp, is_eq, is_lt, ordering_reverse}
use Rattle.std.specs.Cmp.{IsTotalOrder}
use Rattle.std.specs.FinMap.{FinMap, find, put, is_sorted, entries, entries_sorted, empty}
use Rattle.std.specs.FinMap.{get, insert, get-entries, entries-insert, same_entries_map, len-empty, len-entries}
use Rattle.std.specs.FinMap.Entries.{below_all, by_order}
use Rattle.std.specs.List.{AllByRecursion}
use Rattle.std.proofs.lemmas.Bool.{and_parts, cond-true, cond-false}
use Rattle.std.proofs.lemmas.Cmp.{tied_itself}
use Rattle.serde_json.specs.Data.{Data}

-- What is less is `Less`.
less : (r : Ordering) → is_lt r ≡ true → r ≡ Less
less Less lt = refl
less Equal lt = absurd (grind arith)
less Greater lt = absurd (grind arith)

-- A test that holds is true.
of_T : (b : Bool) → T b → b ≡ true
of_T true holds = refl
of_T false holds = absurd holds

-- A list of no length is empty.
pub no_length : {X : Type 0} (xs : List X) → length xs ≡ 0 → xs ≡ []
no_length [] none = refl
no_length (x ∷ xs) none = absurd (omega arith)

-- The empty map has no entries.
pub no_entries : {K X : Type 0} (R : K → K → Ordering) → entries (empty {X = X} {R = R}) ≡ []
no_entries {X = X} R = no_length _ (sym (len-entries (empty {X = X} {R = R})) ∙ len-empty R X)

-- What is there stays where something is put before it.
there : {X : Type 0} (b : Bool) (x : X) (z : Option X) → IsSome z → IsSome (cond b (Some x) z)
there true x z has = refl
there false x z has = has

-- What is found later too is found after the same entry.
found_still : {X : Type 0} (b : Bool) (x : X) (y z : Option X) → (IsSome y → IsSome z) → IsSome (cond b (Some x) y) → IsSome (cond b (Some x) z)
found_still true x y z later has = refl
found_still false x y z later has = later has

-- The first items of equal lists are equal.
pub head_is : {D : Type 0} (a b : D) (xs ys : List D) → a ∷ xs ≡ b ∷ ys → a ≡ b
head_is a b xs ys e = cc e

-- The other items are equal too.
pub tail_is : {D : Type 0} (a b : D) (xs ys : List D) → a ∷ xs ≡ b ∷ ys → xs ≡ ys
tail_is a b xs ys e = cc e

module _ {K X : Type 0} (R : K → K → Ordering) where
  -- An entry among the first is in the whole list.
  pub find-first : (es fs : List (K × X)) (q : K) → IsSome (find R q es) → IsSome (find R q (es ++ fs))
  find-first [] fs q has = absurd (grind (arith, has))
  find-first (e ∷ es) fs q has = found_still (eq_by_cmp R q e.0) e.1 (find R q es) (find R q (es ++ fs)) (find-first es fs q) has

module _ {K X : Type 0} {R : K → K → Ordering} (o : IsTotalOrder R) where
  -- The key of a later entry is above the first key.
  above_first : (f : K × X) (es rest : List (K × X)) (k : K) (x : X) → below_all R f.0 (es ++ (k, x) ∷ rest) ≡ true → R k f.0 ≡ Greater
  above_first f [] rest k x below = o.antisymm k f.0 ∙ ap ordering_reverse (less _ ((and_parts (is_lt (R f.0 k)) (below_all R f.0 rest) below).0))
  above_first f (e ∷ es) rest k x below = above_first f es rest k x ((and_parts (is_lt (R f.0 e.0)) (below_all R f.0 (es ++ (k, x) ∷ rest)) below).1)

  -- An entry above the others goes last.
  put-after : (es rest : List (K × X)) (k : K) (x : X) → is_sorted R (es ++ (k, x) ∷ rest) ≡ true → put R k x es ≡ es ++ (k, x) ∷ []
  put-after [] rest k x rises = refl
  put-after (f ∷ es) rest k x rises =
      let both = and_parts (below_all R f.0 (es ++ (k, x) ∷ rest)) (is_sorted R (es ++ (k, x) ∷ rest)) rises in
      ap (λ r. by_order r ((k, x) ∷ f ∷ es) ((f.0, x) ∷ es) (f ∷ put R k x es)) (above_first f es rest k x both.0)
      ∙ ap (λ (t : List (K × X)). f ∷ t) (put-after es rest k x both.1)

  -- The key of that entry is not among them.
  none-before : (es rest : List (K × X)) (k : K) (x : X) → is_sorted R (es ++ (k, x) ∷ rest) ≡ true → find R k es ≡ None
  none-before [] rest k x rises = refl
  none-before (f ∷ es) rest k x rises =
      let both = and_parts (below_all R f.0 (es ++ (k, x) ∷ rest)) (is_sorted R (es ++ (k, x) ∷ rest)) rises in
      cond-false _ _ _ (ap is_eq (above_first f es rest k x both.0)) ∙ none-before es rest k x both.1

  -- The entry is found after those.
  found-there : (es rest : List (K × X)) (k : K) (x : X) → find R k es ≡ None → find R k (es ++ (k, x) ∷ rest) ≡ Some x
  found-there [] rest k x none = cond-true _ _ _ (ap is_eq (tied_itself o k))
  found-there (f ∷ es) rest k x none = by (eq_by_cmp R k f.0) refl (found-there es rest k x) where
    by : (b : Bool) → eq_by_cmp R k f.0 ≡ b → (find R k es ≡ None → find R k (es ++ (k, x) ∷ rest) ≡ Some x) → find R k (f ∷ es ++ (k, x) ∷ rest) ≡ Some x
    by true same later = absurd (cc (none, cond-true _ (Some f.1) (find R k es) same))
    by false apart later = cond-false _ _ _ apart ∙ later (sym (cond-false _ (Some f.1) (find R k es) apart) ∙ none)

  module _ (m done : FinMap R X) (rest : List (K × X)) (k : K) (x : X) (whole : entries m ≡ entries done ++ (k, x) ∷ rest) where
    -- The entries of m rise.
    rises : is_sorted R (entries done ++ (k, x) ∷ rest) ≡ true
    rises = subst (λ (l : List (K × X)). is_sorted R l ≡ true) whole (of_T _ (entries_sorted m))

    -- The next entry of m goes to the end of those that are done.
    pub entries-next : entries (insert done k x) ≡ entries done ++ (k, x) ∷ []
    entries-next = entries-insert o done k x ∙ put-after (entries done) rest k x rises

    -- The entries after it are left.
    pub whole-next : entries m ≡ entries (insert done k x) ++ rest
    whole-next = whole ∙ sym (append_assoc (entries done) ((k, x) ∷ []) rest) ∙ ap (λ (l : List (K × X)). l ++ rest) (sym entries-next)

    -- Its key is new there.
    pub new-next : get done k ≡ None
    new-next = get-entries done k ∙ none-before (entries done) rest k x rises

    -- It is in m.
    pub stands-next : get m k ≡ Some x
    stands-next = get-entries m k ∙ ap (find R k) whole ∙ found-there (entries done) rest k x (none-before (entries done) rest k x rises)

  -- The entries put one after another make the map.
  pub refilled : (m done : FinMap R X) (rest : List (K × X)) → entries m ≡ entries done ++ rest → fold (λ j e. insert j e.0 e.1) done rest ≡ m
  refilled m done [] whole = same_entries_map done m (sym (whole ∙ append-nil (entries done)))
  refilled m done (e ∷ rest) whole = refilled m (insert done e.0 e.1) rest (whole-next m done rest e.0 e.1 whole)

module _ {K X : Type 0} {R : K → K → Ordering} (as_data : K × X → Data) (P : K × X → Type 0) where
  -- The first entries of m are done, and the JSON values that are left are those of the others.
  pub record Left (m done : FinMap R X) (left : List Data) : Type 0 where
    pub rest : List (K × X)
    pub whole : entries m ≡ entries done ++ rest
    pub are : left ≡ map as_data rest
    pub valid : AllByRecursion P rest

  -- The value d is that of the next entry.
  pub record Next (m done : FinMap R X) (d : Data) (left : List Data) : Type 0 where
    pub key : K
    pub value : X
    pub is : d ≡ as_data (key, value)
    pub stands : get m key ≡ Some value
    pub valid : P (key, value)
    pub after : Left m (insert done key value) left

  -- At first all are left.
  pub left_all : (m done : FinMap R X) (left : List Data) → AllByRecursion P (entries m) → left ≡ map as_data (entries m) → done ≡ empty → Left m done left
  left_all m done left valid are none = record {
    rest = entries m;
    whole = sym (ap (λ (l : List (K × X)). l ++ entries m) (ap entries none ∙ no_entries R));
    are = are;
    valid = valid;
  }

  -- Of some that are left the first is next.
  pub left_next : IsTotalOrder R → (m done : FinMap R X) (d : Data) (left : List Data) → Left m done (d ∷ left) → Next m done d left
  left_next o m done d left h = by h.rest h.whole h.are h.valid where
    by : (rest : List (K × X)) → entries m ≡ entries done ++ rest → d ∷ left ≡ map as_data rest → AllByRecursion P rest → Next m done d left
    by [] whole are valid = absurd (cc are)
    by (e ∷ rest) whole are valid = record {
      key = e.0;
      value = e.1;
      is = head_is d (as_data e) left (map as_data rest) are;
      stands = stands-next o m done rest e.0 e.1 whole;
      valid = valid.0;
      after = record { rest = rest; whole = whole-next o m done rest e.0 e.1 whole; are = tail_is d (as_data e) left (map as_data rest) are; valid = valid.1 };
    }

  -- Where none is left the map is done.
  pub left_none : (m done : FinMap R X) → Left m done [] → done ≡ m
  left_none m done h = by h.rest h.whole h.are where
    by : (rest : List (K × X)) → entries m ≡ entries done ++ rest → [] ≡ map as_data rest → done ≡ m
    by [] whole are = same_entries_map done m (sym (whole ∙ append-nil (entries done)))
    by (e ∷ rest) whole are = absurd (cc are)

  -- What is done is in the map.
  pub left_stands : (m done : FinMap R X) (left : List Data) (q : K) → Left m done left → IsSome (get done q) → IsSome (get m q)
  left_stands m done left q h has =
      subst IsSome (sym (get-entries m q ∙ ap (find R q) h.whole)) (find-first R (entries done) h.rest q (subst IsSome (get-entries done q) has))
