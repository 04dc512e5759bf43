-- The keys of a map that keeps the prefix rule are apart, and those below a prefix share its segments.
use Rattle.std.proofs.Common.{arith, ◌≡◌, ℕ, ◌<◌, ◌≤◌, List, [], ◌∷◌, ◌++◌, ◌||◌, Bool, true, false}
use Rattle.std.proofs.Common.{cond, filter, take, length, length-append, append-nil, slice_index_or, IsSome, IsTrue, refl, sym, ◌∙◌, ap, subst}
use Rattle.std.specs.declared.cmp.Ordering.TheVariants.{Less}
use Rattle.std.specs.Ordering.{eq_by_cmp}
use Rattle.std.specs.Cmp.{eq_by_cmp_equiv}
use Rattle.std.specs.FinMap.{FinMap, entries, keys, get, contains_key-keys}
use Rattle.std.specs.List.{All, AllByRecursion, list_any}
use Rattle.std.specs.List.Sorted.{IsStrictlySortedBy}
use Rattle.std.specs.Map.{keys_of}
use Rattle.std.proofs.lemmas.Bool.{or_right}
use Rattle.std.proofs.lemmas.Cmp.{tied_itself}
use Rattle.std.proofs.lemmas.List.{take-append-le, take_all}
use Rattle.std.proofs.lemmas.Map.Keys.{Less-from_sorted}
use Rattle.key_names.specs.Key.{is_prefix, overlaps}
use Rattle.key_names.specs.Order.{key_cmp, key_total}
use Rattle.json_trees.specs.Apart.{AreApart}
use Rattle.json_trees.specs.Nested.{ShareFirst}
use Rattle.json_trees.proofs.Parting.{All-from}
use Rattle.settings_tree.specs.Rule.{IsPrefixFree}
use Rattle.settings_tree.proofs.KeyOrder.{prefix_splits}
use Rattle.settings_tree.proofs.Rising.{some_rise}

-- A key of a segment list.
abbrev Key : Type 0
Key = List (List ℕ)

module _ {X : Type 0} (m : FinMap key_cmp X) where
  -- Each key of some entries of the map has a value in it.
  some_stand : (p : Key × X → Bool) (es : List (Key × X)) → ((q : Key) → list_any (eq_by_cmp key_cmp q) (keys_of es) ≡ true → IsSome (get m q))
      → AllByRecursion (λ k. IsSome (get m k)) (keys_of (filter p es))
  some_stand p [] h = tt
  some_stand p (e ∷ es) h = by (p e) (some_stand p es (λ q has. h q (or_right (eq_by_cmp key_cmp q e.0) _ has))) where
    by : (b : Bool) → AllByRecursion (λ k. IsSome (get m k)) (keys_of (filter p es))
        → AllByRecursion (λ k. IsSome (get m k)) (keys_of (cond b (e ∷ filter p es) (filter p es)))
    by true rest = (h e.0 (ap (λ b. b || list_any (eq_by_cmp key_cmp e.0) (keys_of es)) ((eq_by_cmp_equiv key_total).refl e.0)), rest)
    by false rest = rest

  -- So do those of all that pass a test.
  pub tested_stand : (p : Key × X → Bool) → All (λ k. IsSome (get m k)) (keys_of (filter p (entries m)))
  tested_stand p = All-from (λ k. IsSome (get m k)) _ (some_stand p (entries m) (λ q has. contains_key-keys m q ∙ has))

  module _ (free : IsPrefixFree m) where
    -- Of two keys of the map of which one comes first none is a prefix of the other.
    two_apart : (k q : Key) → IsSome (get m k) → IsSome (get m q) → key_cmp k q ≡ Less → overlaps k q ≡ false
    two_apart k q first second low = by (is_prefix k q) (is_prefix q k) refl refl where
      one : k ≡ q → ⊥
      one is = let tied = tied_itself key_total k in let twice : key_cmp k k ≡ Less = ap (key_cmp k) is ∙ low in cc (tied, twice)

      by : (a b : Bool) → is_prefix k q ≡ a → is_prefix q k ≡ b → (a || b) ≡ false
      by true b e f = absurd (one (free.alone k q first second e))
      by false true e f = absurd (one (sym (free.alone q k second first f)))
      by false false e f = refl

    -- The keys of entries that pass a test are apart.
    pub some_apart : (p : Key × X → Bool) (list : List (Key × X)) → list ≡ filter p (entries m) → AreApart (keys_of list)
    some_apart p list is = subst (λ (l : List (Key × X)). AreApart (keys_of l)) (sym is) (record {
      rising = rising;
      no_prefix = λ i j d before within.
          two_apart _ _ (tested_stand p i d (omega arith)) (tested_stand p j d within)
          (Less-from_sorted key_cmp (keys_of (filter p (entries m))) i j d rising before within);
    }) where
      rising : IsStrictlySortedBy key_cmp (keys_of (filter p (entries m)))
      rising = some_rise m p _ refl

-- So are those of all entries.
pub all_apart : {X : Type 0} (m : FinMap key_cmp X) → IsPrefixFree m → (list : List (Key × X)) → list ≡ entries m → AreApart (keys_of list)
all_apart {X} m free list is = some_apart m free (λ _. true) list (is ∙ sym (all_pass (entries m))) where
  all_pass : (es : List (Key × X)) → filter (λ _. true) es ≡ es
  all_pass [] = refl
  all_pass (e ∷ es) = ap (λ (l : List (Key × X)). e ∷ l) (all_pass es)

-- What begins with a prefix is at least as long, and begins with each part of it.
long_enough : (prefix key : Key) → IsTrue (is_prefix prefix key) → length prefix ≤ length key
long_enough prefix key begins = let r = prefix_splits prefix key begins in omega (arith, ap length r.1, length-append prefix r.0)

pub take_begun : (n : ℕ) (prefix key : Key) → IsTrue (is_prefix prefix key) → n ≤ length prefix → take n key ≡ take n prefix
take_begun n prefix key begins few = let r = prefix_splits prefix key begins in ap (take n) r.1 ∙ take-append-le n prefix r.0 few

-- Keys that begin with a prefix begin with all of it.
pub all_begin : (prefix : Key) (keys : List Key) → All (λ key. IsTrue (is_prefix prefix key)) keys → All (λ key. take (length prefix) key ≡ prefix) keys
all_begin prefix keys begin = λ i d within. take_begun (length prefix) prefix _ (begin i d within) (omega arith) ∙ take_all (length prefix) prefix (omega arith)

-- They share fewer segments, beyond which they go on.
pub share_fewer : (n : ℕ) (prefix : Key) (keys : List Key) → All (λ key. IsTrue (is_prefix prefix key)) keys → n < length prefix → ShareFirst n keys
share_fewer n prefix keys begin few = record {
  longer = λ i d within. let long = long_enough prefix (slice_index_or keys i d) (begin i d within) in omega (arith, long);
  alike = λ i j d before within. take_begun n prefix _ (begin i d (omega arith)) (omega arith) ∙ sym (take_begun n prefix _ (begin j d within) (omega arith));
}

-- Those that are not the prefix go on beyond it.
pub share_all : (prefix : Key) (keys : List Key) → All (λ key. IsTrue (is_prefix prefix key)) keys → All (λ key. key ≡ prefix → ⊥) keys
    → ShareFirst (length prefix) keys
share_all prefix keys begin others = record {
  longer = λ i d within. longer (slice_index_or keys i d) (begin i d within) (others i d within);
  alike = λ i j d before within. take_begun (length prefix) prefix _ (begin i d (omega arith)) (omega arith)
      ∙ sym (take_begun (length prefix) prefix _ (begin j d within) (omega arith));
} where
  longer : (key : Key) → IsTrue (is_prefix prefix key) → (key ≡ prefix → ⊥) → length prefix < length key
  longer key begins other = let r = prefix_splits prefix key begins in by r.0 r.1 where
    by : (rest : Key) → key ≡ prefix ++ rest → length prefix < length key
    by [] is = absurd (other (is ∙ append-nil prefix))
    by (s ∷ rest) is = omega (arith, ap length is, length-append prefix (s ∷ rest))
