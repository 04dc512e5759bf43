-- Changes that make a tree, in the order of their keys.
use Rattle.std.proofs.Common.{◌≡◌, ◌+◌, ◌<◌, ℕ, zero, suc, List, [], ◌∷◌, map, take, length}
use Rattle.std.proofs.Common.{get_or, Bool, true, false, ◌&&◌, ◌||◌, refl, sym, ap, ◌∙◌, subst, arith}
use Rattle.std.specs.Prelude.{codes, not, nat_lt}
use Rattle.std.specs.Str.{bytes_eq}
use Rattle.std.specs.List.{All, AllPairs, AllByRecursion, IsDistinct}
use Rattle.std.specs.List.Sorted.{IsPermutation, IsSortedBy, IsStrictlySortedBy}
use Rattle.std.specs.Map.{keys_of}
use Rattle.std.specs.Cmp.{IsStrictWeakOrder}
use Rattle.std.specs.Ordering.{is_eq, is_lt, ordering_reverse}
use Rattle.std.specs.declared.cmp.Ordering.{Ordering}
use Rattle.std.specs.declared.cmp.Ordering.TheVariants.{Less, Equal, Greater}
use Rattle.std.proofs.Math.Bool.{or_comm}
use Rattle.std.proofs.lemmas.Bool.{false≢true}
use Rattle.std.proofs.lemmas.Cmp.{tied_itself}
use Rattle.std.proofs.lemmas.List.Kept.{AllPairs-cons}
use Rattle.std.proofs.lemmas.List.Sorted.{ranks_by, sorted_far, IsPermutation-map, All-permutation}
use Rattle.std.proofs.lemmas.Slice.Eq.{bytes_eq-Decides}
use Rattle.std.proofs.lemmas.Map.Keys.{IsDistinct-IsPermutation, IsDistinct-head, IsDistinct-tail}
use Rattle.key_names.specs.Key.{is_prefix, overlaps}
use Rattle.key_names.specs.Order.{key_cmp, key_total, bytes_total, key_cmp-IsAntisymmetric}
use Rattle.json_trees.specs.Apart.{AreApart}
use Rattle.json_trees.specs.Nested.{ShareFirst}
use Rattle.json_trees.specs.Tree.{Path}
use Rattle.json_trees.proofs.Parting.{All-from}
use Rattle.change_words.specs.Said.{Change, is_setting, are_settings, overlaps_any, are_separate, is_tree}

abbrev before : Change → Change → Bool
before a b = is_lt (key_cmp a.0 b.0)

-- changes are ordered by their keys
pub ranked : IsStrictWeakOrder (λ (a b : Change). is_lt (key_cmp a.0 b.0))
ranked = ranks_by key_total (λ (a : Change). a.0)

-- ---- tests

both : (a b : Bool) → (a && b) ≡ true → (a ≡ true) × (b ≡ true)
both true b e = (refl, e)
both false b e = absurd (false≢true e)

neither : (a b : Bool) → (a || b) ≡ false → (a ≡ false) × (b ≡ false)
neither true b e = absurd (false≢true (sym e))
neither false b e = (refl, e)

is_not : (a : Bool) → not a ≡ true → a ≡ false
is_not true e = absurd (false≢true e)
is_not false e = refl

-- ---- keys

prefix_itself : (k : Path) → is_prefix k k ≡ true
prefix_itself [] = refl
prefix_itself (a ∷ k) = let here = ap is_eq (tied_itself bytes_total a) in let rest = prefix_itself k in cc

-- keys that tie are one, which is its own prefix
untied : (k l : Path) (r : Ordering) → key_cmp k l ≡ r → overlaps k l ≡ false → is_eq r ≡ false
untied k l Less is none = refl
untied k l Greater is none = refl
untied k l Equal is none =
    let same = key_cmp-IsAntisymmetric k l is in
    let itself : is_prefix k l ≡ true = ap (λ (x : Path). is_prefix k x) (sym same) ∙ prefix_itself k in
    absurd (false≢true (sym (neither (is_prefix k l) (is_prefix l k) none).0 ∙ itself))

flips : (k l : Path) → overlaps k l ≡ overlaps l k
flips k l = or_comm (is_prefix k l) (is_prefix l k)

none_of : (k : Path) (cs : List Change) → overlaps_any k cs ≡ false → AllByRecursion (λ l. overlaps k l ≡ false) (keys_of cs)
none_of k [] e = tt
none_of k (c ∷ cs) e = let parts = neither (overlaps k c.0) (overlaps_any k cs) e in (parts.0, none_of k cs parts.1)

distinct : (cs : List Change) → are_separate cs ≡ true → IsDistinct overlaps (keys_of cs)
unfolding IsDistinct
distinct [] e = tt
distinct (c ∷ cs) e =
    let parts = both (not (overlaps_any c.0 cs)) (are_separate cs) e in
    (none_of c.0 cs (is_not (overlaps_any c.0 cs) parts.0), distinct cs parts.1)

settings_all : (cs : List Change) → are_settings cs ≡ true → AllByRecursion (λ k. is_setting k ≡ true) (keys_of cs)
settings_all [] e = tt
settings_all (c ∷ cs) e = let parts = both (is_setting c.0) (are_settings cs) e in (parts.0, settings_all cs parts.1)

-- ---- in order

less_is : (r : Ordering) → is_lt (ordering_reverse r) ≡ false → is_eq r ≡ false → r ≡ Less
less_is Less back other = refl
less_is Equal back other = absurd (false≢true (sym other))
less_is Greater back other = absurd (false≢true (sym back))

all_above : (c : Change) (cs : List Change) → ((j : ℕ) (d : Change) → j < length cs → is_lt (key_cmp (get_or cs j d).0 c.0) ≡ false)
    → AllByRecursion (λ k. overlaps c.0 k ≡ false) (keys_of cs) → AllByRecursion (λ k. key_cmp c.0 k ≡ Less) (keys_of cs)
all_above c [] far none = tt
all_above c (d ∷ cs) far none = (
  less_is (key_cmp c.0 d.0) (ap is_lt (sym (key_total.antisymm d.0 c.0)) ∙ far 0 d (omega arith)) (untied c.0 d.0 (key_cmp c.0 d.0) refl none.0),
  all_above c cs
      (λ j e within. far (suc j) e (omega (arith, within))) none.1,
)

rises : (cs : List Change) → IsSortedBy before cs → IsDistinct overlaps (keys_of cs) → IsStrictlySortedBy key_cmp (keys_of cs)
unfolding IsStrictlySortedBy
rises [] sorted apart = tt
rises (c ∷ cs) sorted apart = (
  all_above c cs (λ j d within. sorted_far before ranked (c ∷ cs) sorted 0 (suc j) d (omega arith) (omega (arith, within)))
      (IsDistinct-head overlaps c.0 (keys_of cs) apart),
  rises cs (λ k d low within. next k d (sorted (suc k) d (omega arith) (omega (arith, within))))
      (IsDistinct-tail overlaps c.0 (keys_of cs) apart),
)
  where
    next : (k : ℕ) (d : Change) → before (get_or (c ∷ cs) (suc k + 1) d) (get_or cs k d) ≡ false → before (get_or cs (k + 1) d) (get_or cs k d) ≡ false
    next k d is = let place : suc k + 1 ≡ suc (k + 1) = omega arith in subst (λ (n : ℕ). before (get_or (c ∷ cs) n d) (get_or cs k d) ≡ false) place is

unlike : (keys : List Path) → IsDistinct overlaps keys → AllPairs (λ k l. overlaps k l ≡ false) keys
unlike [] h = λ i j d low within. absurd (omega arith)
unlike (k ∷ keys) h =
    AllPairs-cons (λ k l. overlaps k l ≡ false) k keys (All-from (λ l. overlaps k l ≡ false) keys (IsDistinct-head overlaps k keys h))
    (unlike keys (IsDistinct-tail overlaps k keys h))

begins : (k : Path) → is_setting k ≡ true → take 1 k ≡ codes "settings" ∷ []
begins [] is = absurd (false≢true is)
begins (a ∷ k) is = ap (λ (b : List ℕ). b ∷ [])
    ((bytes_eq-Decides a (codes "settings")).0 (both (nat_lt 1 (length (a ∷ k))) (bytes_eq a (codes "settings")) is).1)

goes_on : (k : Path) → is_setting k ≡ true → 1 < length k
goes_on [] is = absurd (false≢true is)
goes_on (a ∷ []) is = absurd (false≢true is)
goes_on (a ∷ b ∷ k) is = omega arith

module _ (changes sorted : List Change) (tree : is_tree changes ≡ true) (same : IsPermutation changes sorted) where
  keys_moved : IsPermutation (keys_of changes) (keys_of sorted)
  keys_moved = IsPermutation-map (λ (c : Change). c.0) changes sorted same

  -- the keys of a tree in their order are apart
  pub apart : IsSortedBy (λ (a b : Change). is_lt (key_cmp a.0 b.0)) sorted → AreApart (keys_of sorted)
  apart is =
      let differ = IsDistinct-IsPermutation overlaps flips (keys_of changes) (keys_of sorted) keys_moved
      (distinct changes (both (are_settings changes) (are_separate changes) tree).1) in
      record { rising = rises sorted is differ; no_prefix = unlike (keys_of sorted) differ }

  all_settings : All (λ k. is_setting k ≡ true) (keys_of sorted)
  all_settings =
      All-permutation (λ k. is_setting k ≡ true) (keys_of changes) (keys_of sorted) keys_moved
      (All-from (λ k. is_setting k ≡ true) (keys_of changes) (settings_all changes (both (are_settings changes) (are_separate changes) tree).0))

  -- each is below `settings`
  pub below : All (λ k. take 1 k ≡ codes "settings" ∷ []) (keys_of sorted)
  below i d within = begins (get_or (keys_of sorted) i d) (all_settings i d within)

  pub shared : ShareFirst 1 (keys_of sorted)
  shared = record {
    longer = λ i d within. goes_on (get_or (keys_of sorted) i d) (all_settings i d within);
    alike = λ i j d low within. below i d (omega (arith, low, within)) ∙ sym (below j d within);
  }
