-- A `BTreeSet` of names seen as a finite set.
use Rattle.std.proofs.Common.{arith, ◌≡◌, ℕ, List, [], ◌∷◌, cond, map, not, Option, Some, None, is_some, Bool, true, false, T, refl, sym, ◌∙◌, ap, subst}
use Rattle.std.specs.Prelude.{◌||◌}
use Rattle.std.specs.declared.cmp.Ordering.{Ordering}
use Rattle.std.specs.declared.cmp.Ordering.TheVariants.{Less, Equal, Greater}
use Rattle.std.specs.Ordering.{eq_by_cmp, is_eq, is_lt}
use Rattle.std.specs.Cmp.{eq_by_cmp_equiv}
use Rattle.std.specs.BTreeSet as tree
use Rattle.std.specs.FinMap.{contains_key, empty, get, keys, from_sorted}
use Rattle.std.specs.FinMap.{is_sorted, same_map, get-insert, get-from_entries, get-from_sorted, entries-from_sorted}
use Rattle.std.specs.FinMap.Entries.{is_some-find, below_all}
use Rattle.std.specs.List.{list_any, AllByRecursion}
use Rattle.std.specs.List.Sorted.{IsStrictlySortedBy}
use Rattle.std.proofs.lemmas.Bool.{and_from}
use Rattle.std.proofs.lemmas.Map.Keys.{sorted_head, sorted_tail}
use Rattle.key_names.specs.Order.{bytes_cmp, bytes_total, bytes_cmp-IsAntisymmetric}
use Rattle.metadata_links.specs.Rising.{Names, marked, set_of, with_member}

equal : (r : Ordering) → is_eq r ≡ true → r ≡ Equal
equal Less eq = absurd (grind arith)
equal Equal eq = refl
equal Greater eq = absurd (grind arith)

T_of : (b : Bool) → b ≡ true → T b
T_of b holds = subst T (sym holds) tt

-- ---- finite sets of names

same_mark : (x y : Option (Unit {0})) → is_some x ≡ is_some y → x ≡ y
same_mark None None e = refl
same_mark None (Some b) e = absurd (cc e)
same_mark (Some a) None e = absurd (cc e)
same_mark (Some a) (Some b) e = refl

-- Sets with the same names are one.
pub same_names : (s t : Names) → ((q : List ℕ) → contains_key s q ≡ contains_key t q) → s ≡ t
same_names s t same = same_map bytes_total bytes_cmp-IsAntisymmetric s t (λ q. same_mark _ _ (same q))

keys-marked : (names : List (List ℕ)) → map (λ e. e.0) (marked names) ≡ names
keys-marked [] = refl
keys-marked (name ∷ names) = ap (λ (l : List (List ℕ)). name ∷ l) (keys-marked names)

-- The set of a list has the names of the list.
pub contains-set_of : (names : List (List ℕ)) (q : List ℕ) → contains_key (set_of names) q ≡ list_any (eq_by_cmp bytes_cmp q) names
contains-set_of names q = ap is_some (get-from_entries bytes_total (marked names) q) ∙ is_some-find bytes_cmp q (marked names)
    ∙ ap (list_any (eq_by_cmp bytes_cmp q)) (keys-marked names)

-- And the set with one more has that one more.
pub contains-with_member : (s : Names) (k q : List ℕ) → contains_key (with_member s k) q ≡ (eq_by_cmp bytes_cmp q k || contains_key s q)
contains-with_member s k q = ap is_some (get-insert bytes_total s k tt q) ∙ by (eq_by_cmp bytes_cmp q k) where
  by : (b : Bool) → is_some (cond b (Some tt) (get s q)) ≡ (b || contains_key s q)
  by true = refl
  by false = refl

-- ---- the tree

-- Whether a name is in the set.
pub set-contains : (s : tree.BTreeSet (List ℕ)) (v : Names) (q : List ℕ) → set_of s.keys ≡ v → contains_key v q ≡ tree.contains bytes_cmp s q
set-contains s v q is = sym (ap (λ (w : Names). contains_key w q) is) ∙ contains-set_of s.keys q

-- A name that is there already adds nothing.
pub present : (v : Names) (k : List ℕ) → contains_key v k ≡ true → with_member v k ≡ v
present v k has = same_names _ _ (λ q. contains-with_member v k q ∙ by q (eq_by_cmp bytes_cmp q k) refl) where
  by : (q : List ℕ) (b : Bool) → eq_by_cmp bytes_cmp q k ≡ b → (eq_by_cmp bytes_cmp q k || contains_key v q) ≡ contains_key v q
  by q true is = ap (λ b. b || contains_key v q) is ∙ sym (ap (contains_key v) (bytes_cmp-IsAntisymmetric q k (equal _ is)) ∙ has)
  by q false is = ap (λ b. b || contains_key v q) is

-- What is put into the tree is put into the set.
pub set-insert : (s t : tree.BTreeSet (List ℕ)) (v : Names) (k : List ℕ) → set_of s.keys ≡ v → tree.Updates bytes_cmp s t k true
    → set_of t.keys ≡ with_member v k
set-insert s t v k is updates = same_names _ _ (λ q.
    contains-set_of t.keys q ∙ updates.0 q ∙ ap (λ b. cond b true (tree.contains bytes_cmp s q)) ((eq_by_cmp_equiv bytes_total).symm k q)
    ∙ or_cond (eq_by_cmp bytes_cmp q k) _ ∙ ap (λ b. eq_by_cmp bytes_cmp q k || b) (sym (set-contains s v q is)) ∙ sym (contains-with_member v k q))
  where
    or_cond : (a b : Bool) → cond a true b ≡ (a || b)
    or_cond true b = refl
    or_cond false b = refl

-- A tree without a name is the empty set.
pub set-empty : (s : tree.BTreeSet (List ℕ)) → tree.IsEmpty s → set_of s.keys ≡ empty
set-empty s none = ap set_of none

-- ---- lists that rise

below_marked : (k : List ℕ) (names : List (List ℕ)) → AllByRecursion (λ y. bytes_cmp k y ≡ Less) names → below_all bytes_cmp k (marked names) ≡ true
below_marked k [] below = refl
below_marked k (name ∷ names) below = and_from _ _ (ap is_lt below.0) (below_marked k names below.1)

sorted_marked : (names : List (List ℕ)) → IsStrictlySortedBy bytes_cmp names → is_sorted bytes_cmp (marked names) ≡ true
sorted_marked [] rises = refl
sorted_marked (name ∷ names) rises = and_from _ _ (below_marked name names (sorted_head bytes_cmp name names rises))
    (sorted_marked names (sorted_tail bytes_cmp name names rises))

-- The keys of a tree are the rising list of its set.
pub rising-sorted : (names : List (List ℕ)) → IsStrictlySortedBy bytes_cmp names → keys (set_of names) ≡ names
rising-sorted names rises = ap keys same ∙ ap (map (λ e. e.0)) (entries-from_sorted bytes_cmp (marked names) sorted) ∙ keys-marked names where
  sorted : T (is_sorted bytes_cmp (marked names))
  sorted = T_of _ (sorted_marked names rises)

  same : set_of names ≡ from_sorted (marked names)
  same = same_map bytes_total bytes_cmp-IsAntisymmetric _ _ (λ q. get-from_entries bytes_total (marked names) q
      ∙ sym (get-from_sorted bytes_cmp (marked names) q sorted))

-- What is new is added, and what is there is not.
pub told_new : (s : tree.BTreeSet (List ℕ)) (v : Names) (q : List ℕ) (b : Bool) → set_of s.keys ≡ v → b ≡ tree.contains bytes_cmp s q → b ≡ false
    → true ≡ not (contains_key v q)
told_new s v q b is told old = sym (ap not (set-contains s v q is ∙ sym told ∙ old))

pub told_old : (s : tree.BTreeSet (List ℕ)) (v : Names) (q : List ℕ) (b : Bool) → set_of s.keys ≡ v → b ≡ tree.contains bytes_cmp s q → b ≡ true
    → false ≡ not (contains_key v q)
told_old s v q b is told new = sym (ap not (set-contains s v q is ∙ sym told ∙ new))

-- A set that has the name already stays.
pub kept_old : (s : tree.BTreeSet (List ℕ)) (v : Names) (q : List ℕ) (b : Bool) → set_of s.keys ≡ v → b ≡ tree.contains bytes_cmp s q → b ≡ true
    → v ≡ with_member v q
kept_old s v q b is told new = sym (present v q (set-contains s v q is ∙ sym told ∙ new))

pub kept_seen : (s : tree.BTreeSet (List ℕ)) (v : Names) (q : List ℕ) (b : Bool) → set_of s.keys ≡ v → b ≡ tree.contains bytes_cmp s q → b ≡ true
    → set_of s.keys ≡ with_member v q
kept_seen s v q b is told new = is ∙ kept_old s v q b is told new

pub put_new : (s t : tree.BTreeSet (List ℕ)) (v : Names) (k q : List ℕ) → set_of s.keys ≡ v → k ≡ q → tree.Updates bytes_cmp s t k true
    → set_of t.keys ≡ with_member v q
put_new s t v k q is copy updates = set-insert s t v k is updates ∙ ap (with_member v) copy

-- The keys of a tree are those of its set.
pub keys_seen : (s : tree.BTreeSet (List ℕ)) (v : Names) (it : List (List ℕ)) → set_of s.keys ≡ v → it ≡ s.keys → tree.IsOrdered bytes_cmp s → it ≡ keys v
keys_seen s v it is same rises = same ∙ sym (rising-sorted s.keys rises) ∙ ap keys is

pub ruleset name_sets = (set-empty, told_new, told_old, kept_old, kept_seen, put_new, keys_seen)
