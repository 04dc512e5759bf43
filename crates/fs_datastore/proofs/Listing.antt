-- The paths below a directory, read in their order.
use Rattle.std.proofs.Common.{arith, ◌≡◌, ◌<◌, ℕ, suc, List, [], ◌∷◌, ◌++◌, ◌||◌, T, nat_lt, length, length-append, slice_index_or, map}
use Rattle.std.proofs.Common.{drop, Option, Some, None, IsSome, is_some, Bool, true, false, cond, inl, inr, refl, sym, ap, ◌∙◌, subst}
use Rattle.std.specs.List.{list_any, starts_with, AllByRecursion}
use Rattle.std.specs.List.Sorted.{IsStrictlySortedBy}
use Rattle.std.specs.FinMap.{keys, entries, entries_sorted, contains_key-keys}
use Rattle.std.specs.FinMap.Entries.{below_all, is_sorted}
use Rattle.std.proofs.lemmas.Cmp.{tied_itself}
use Rattle.std.proofs.lemmas.List.Kept.{IsStrictlySortedBy-filter}
use Rattle.std.proofs.lemmas.Map.Views.{any-filter_same}
use Rattle.std.specs.declared.cmp.Ordering.{Ordering}
use Rattle.std.specs.declared.cmp.Ordering.TheVariants.{Less, Equal, Greater}
use Rattle.std.specs.Ordering.{eq_by_cmp, is_eq, is_lt, ordering_reverse, ordering_then}
use Rattle.std.proofs.lemmas.Bool.{false≢true, and_parts, le-leb, leb-true}
use Rattle.key_names.proofs.Ties.{same_bytes}
use Rattle.key_names.proofs.Segments.{both}
use Rattle.outside.specs.Names.{Names, name_cmp, path_cmp, same_name, is_below}
use Rattle.outside.specs.Order.{name_total, path_total}
use Rattle.outside.specs.Tree.{Node, Tree, node_at, paths_below}
use Rattle.outside.proofs.Trees.{path_cases, path_itself}
use Rattle.commit_journal.specs.Files.{Files, files_below}
use Rattle.settings_tree.specs.Change.{Place}
use Rattle.settings_tree.specs.Change.{Live, Meta, Pend, TheOwed, TheImage, TheWeak}
use Rattle.fs_datastore.specs.Places.{path_of, is_place}
use Rattle.fs_datastore.specs.Values.{Value, live, pending, owed, image, weak}
use Rattle.fs_datastore.specs.Stands.{node_of}
use Rattle.fs_datastore.specs.Damage.{HaveFiles, Fits, format, place}

-- ---- nodes that may come after others

nodes_alike : (a b : Files) → ((name : List ℕ) (rest : Names) → a (name ∷ rest) ≡ b (name ∷ rest)) → (p : Place) → node_of a p ≡ node_of b p
nodes_alike a b same p = ap (λ (n : Option Node). cond (is_place p) n None) (at p) where
  at : (p : Place) → a (path_of p) ≡ b (path_of p)
  at (Live k) = same _ _
  at (Meta k n) = same _ _
  at (Pend t k) = same _ _
  at TheOwed = same _ _
  at TheImage = same _ _
  at TheWeak = same _ _

-- what may come after files may come after those that are alike
pub fits_alike : (a b : Files) → ((name : List ℕ) (rest : Names) → a (name ∷ rest) ≡ b (name ∷ rest)) → (path : Names) (node : Node) → Fits a path node
    → Fits b path node
fits_alike a b same path node (format here is) = format here is
fits_alike a b same path node (place p bytes valid here is t) = place p bytes valid here is (record {
  value = t.value;
  kind = t.kind;
  spelled = t.spelled;
  apart = λ q clash. sym (nodes_alike a b same q) ∙ t.apart q clash;
  files = have t.value t.files;
})
  where
    have : (v : Value) → HaveFiles a v → HaveFiles b v
    have (live s) h = tt
    have (pending x) h = tt
    have (owed o) h = tt
    have (image u) h = tt
    have (weak ks) h = λ i d low. ((h i d low).0, subst IsSome (nodes_alike a b same (Live (slice_index_or ks i d))) (h i d low).1)

-- ---- paths below one directory

cmp_itself : (p : Names) → path_cmp p p ≡ Equal
cmp_itself p = tied (path_cmp p p) (path_itself p) where
  tied : (r : Ordering) → is_eq r ≡ true → r ≡ Equal
  tied Less e = absurd (false≢true e)
  tied Equal e = refl
  tied Greater e = absurd (false≢true e)

-- a common directory does not change the order
pub cmp_below : (dir p q : Names) → path_cmp (dir ++ p) (dir ++ q) ≡ path_cmp p q
cmp_below [] p q = refl
cmp_below (n ∷ dir) p q = ap (λ (r : Ordering). ordering_then r (path_cmp (dir ++ p) (dir ++ q))) (name_itself n) ∙ cmp_below dir p q
  where
    tied : (r : Ordering) → is_eq r ≡ true → r ≡ Equal
    tied Less e = absurd (false≢true e)
    tied Equal e = refl
    tied Greater e = absurd (false≢true e)

    name_itself : (n : List ℕ) → name_cmp n n ≡ Equal
    name_itself n = tied (name_cmp n n) (ap is_eq (tied_itself name_total n))

pub drop_dir : (dir q : Names) → length dir ≡ 2 → drop 2 (dir ++ q) ≡ q
drop_dir [] q two = absurd (omega arith)
drop_dir (a ∷ []) q two = absurd (omega arith)
drop_dir (a ∷ b ∷ []) q two = refl
drop_dir (a ∷ b ∷ c ∷ dir) q two = absurd (omega (arith, two))

-- ---- lists of paths that rise

abbrev pub in_list : Names → List Names → Bool
in_list x ps = list_any (eq_by_cmp path_cmp x) ps

above_all : (p x : Names) (left : List Names) → AllByRecursion (λ z. path_cmp p z ≡ Less) left → in_list x left ≡ true → path_cmp p x ≡ Less
above_all p x [] low has = absurd (false≢true has)
above_all p x (z ∷ left) low has = elim (path_cases x z) [
  | inl here ↦ ap (path_cmp p) here ∙ low.0
  | inr other ↦ above_all p x left low.1 (sym (ap (λ (b : Bool). b || list_any (eq_by_cmp path_cmp x) left) other) ∙ has)
]

-- of a list that rises, the first part is what is below the path after it
pub split_at : (done : List Names) (p x : Names) (left : List Names) → IsStrictlySortedBy path_cmp (done ++ p ∷ left) → in_list x (done ++ p ∷ left) ≡ true
    → in_list x done ≡ is_lt (path_cmp x p)
unfolding IsStrictlySortedBy
split_at [] p x left rises has = elim (path_cases x p) [
  | inl here ↦ sym (ap is_lt (ap (λ (q : Names). path_cmp q p) here ∙ cmp_itself p))
  | inr other ↦ sym (ap is_lt (path_total.antisymm x p ∙ ap ordering_reverse
      (above_all p x left rises.0 (sym (ap (λ (b : Bool). b || list_any (eq_by_cmp path_cmp x) left) other) ∙ has))))
]
split_at (d ∷ done) p x left rises has = elim (path_cases x d) [
  | inl here ↦
      ap (λ (b : Bool). b || list_any (eq_by_cmp path_cmp x) done) (ap (λ (q : Names). eq_by_cmp path_cmp q d) here ∙ path_itself d)
      ∙ sym (ap is_lt (ap (λ (q : Names). path_cmp q p) here ∙ below_later d p done left rises.0))
  | inr other ↦
      ap (λ (b : Bool). b || list_any (eq_by_cmp path_cmp x) done) other
      ∙ split_at done p x left rises.1 (sym (ap (λ (b : Bool). b || list_any (eq_by_cmp path_cmp x) (done ++ p ∷ left)) other) ∙ has)
]
  where
    below_later : (d p : Names) (done left : List Names) → AllByRecursion (λ z. path_cmp d z ≡ Less) (done ++ p ∷ left) → path_cmp d p ≡ Less
    below_later d p [] left low = low.0
    below_later d p (e ∷ done) left low = below_later d p done left low.1

-- ---- the paths of a tree

of_T : (b : Bool) → T b → b ≡ true
of_T true holds = refl
of_T false holds = absurd holds

pub less : (r : Ordering) → is_lt r ≡ true → r ≡ Less
less Less lt = refl
less Equal lt = absurd (false≢true lt)
less Greater lt = absurd (false≢true lt)

below_by : (k : Names) (es : List (Names × Node)) → below_all path_cmp k es ≡ true → AllByRecursion (λ q. path_cmp k q ≡ Less) (map (λ e. e.0) es)
below_by k [] below = tt
below_by k (e ∷ es) below =
    let both = and_parts (is_lt (path_cmp k e.0)) (below_all path_cmp k es) below in
    (less (path_cmp k e.0) both.0, below_by k es both.1)

sorted_keys : (es : List (Names × Node)) → is_sorted path_cmp es ≡ true → IsStrictlySortedBy path_cmp (map (λ e. e.0) es)
unfolding IsStrictlySortedBy
sorted_keys [] rises = tt
sorted_keys (e ∷ es) rises =
    let both = and_parts (below_all path_cmp e.0 es) (is_sorted path_cmp es) rises in
    (below_by e.0 es both.0, sorted_keys es both.1)

pub paths_rise : (dir : Names) (tree : Tree) → IsStrictlySortedBy path_cmp (paths_below dir tree)
paths_rise dir tree = IsStrictlySortedBy-filter path_cmp (is_below dir) (keys tree) (sorted_keys (entries tree) (of_T _ (entries_sorted tree)))

longer : (dir : Names) (name : List ℕ) (rest : Names) → is_below dir (dir ++ name ∷ rest) ≡ true
longer dir name rest = both (nat_lt (length dir) (length (dir ++ name ∷ rest))) (starts_with same_name (dir ++ name ∷ rest) dir)
    (le-leb (suc (length dir)) (length (dir ++ name ∷ rest)) (omega (arith, length-append dir (name ∷ rest)))) (begins dir (name ∷ rest)) where
      none : (rest : Names) → starts_with same_name rest [] ≡ true
      none [] = refl
      none (r ∷ rest) = refl

      begins : (dir rest : Names) → starts_with same_name (dir ++ rest) dir ≡ true
      begins [] rest = none rest
      begins (n ∷ dir) rest = both (same_name n n) (starts_with same_name (dir ++ rest) dir) (ap is_eq (tied_itself name_total n)) (begins dir rest)

-- each node below the directory is listed
pub each_listed : (dir : Names) (tree : Tree) (name : List ℕ) (rest : Names) → IsSome (files_below dir tree (name ∷ rest))
    → in_list (dir ++ name ∷ rest) (paths_below dir tree) ≡ true
each_listed dir tree name rest there =
    any-filter_same (eq_by_cmp path_cmp (dir ++ name ∷ rest)) (is_below dir) true
    (λ k same. ap (is_below dir) (sym (tied (dir ++ name ∷ rest) k same)) ∙ longer dir name rest) (keys tree)
    ∙ sym (contains_key-keys tree (dir ++ name ∷ rest)) ∙ some (node_at tree (dir ++ name ∷ rest)) there
  where
    tied : (x k : Names) → eq_by_cmp path_cmp x k ≡ true → x ≡ k
    tied x k same = elim (path_cases x k) [ inl is ↦ is | inr other ↦ absurd (false≢true (sym other ∙ same)) ]

    some : (o : Option Node) → IsSome o → is_some o ≡ true
    some None none = absurd (false≢true none)
    some (Some n) is = refl

-- ---- a path that is listed

pub record IsListed (dir : Names) (tree : Tree) (p : Names) : Type 0 where
  pub name : List ℕ
  pub rest : Names
  pub path_is : p ≡ dir ++ name ∷ rest
  pub node : Node
  pub there : node_at tree p ≡ Some node

record Below (dir p : Names) : Type 0 where
  name : List ℕ
  rest : Names
  is : p ≡ dir ++ name ∷ rest

below_is : (dir p : Names) → length dir < length p → starts_with same_name p dir ≡ true → Below dir p
below_is [] [] longer begins = absurd (omega (arith, longer))
below_is [] (n ∷ p) longer begins = record { name = n; rest = p; is = refl }
below_is (d ∷ dir) [] longer begins = absurd (omega (arith, longer))
below_is (d ∷ dir) (n ∷ p) longer begins =
    let parts = and_parts (same_name d n) (starts_with same_name p dir) begins in
    let rest = below_is dir p (omega (arith, longer)) parts.1 in
    let head : n ≡ d = sym ((same_bytes d n (name_cmp d n) (same_name d n) refl refl).0 parts.0) in
    let tail : p ≡ dir ++ rest.name ∷ rest.rest = rest.is in
    record { name = rest.name; rest = rest.rest; is = (λ i. head i ∷ tail i) }

in_part : (done left : List Names) (p : Names) → in_list p (done ++ p ∷ left) ≡ true
in_part [] left p = ap (λ (b : Bool). b || list_any (eq_by_cmp path_cmp p) left) (path_itself p)
in_part (d ∷ done) left p = by (eq_by_cmp path_cmp p d) (in_part done left p) where
  by : (b : Bool) → in_list p (done ++ p ∷ left) ≡ true → (b || in_list p (done ++ p ∷ left)) ≡ true
  by true has = refl
  by false has = has

-- it is below the directory, and a node is there
pub listed_is : (dir : Names) (tree : Tree) (done left : List Names) (p : Names) → done ++ p ∷ left ≡ paths_below dir tree → IsListed dir tree p
listed_is dir tree done left p whole =
    let has : in_list p (paths_below dir tree) ≡ true = sym (ap (in_list p) whole) ∙ in_part done left p in
    let parts = and_parts (is_below dir p) (list_any (eq_by_cmp path_cmp p) (keys tree))
    (sym (any-filter_same (eq_by_cmp path_cmp p) (is_below dir) (is_below dir p) (λ k same. ap (is_below dir) (sym (tied p k same))) (keys tree)) ∙ has) in
    let ways = and_parts (nat_lt (length dir) (length p)) (starts_with same_name p dir) parts.0 in
    let b = below_is dir p (leb-true (suc (length dir)) (length p) ways.0) ways.1 in
    by (node_at tree p) refl (contains_key-keys tree p ∙ parts.1) b
  where
    tied : (x k : Names) → eq_by_cmp path_cmp x k ≡ true → x ≡ k
    tied x k same = elim (path_cases x k) [ inl is ↦ is | inr other ↦ absurd (false≢true (sym other ∙ same)) ]

    by : (o : Option Node) → node_at tree p ≡ o → is_some (node_at tree p) ≡ true → Below dir p → IsListed dir tree p
    by None is some b = absurd (false≢true (sym (ap is_some is) ∙ some))
    by (Some n) is some b = record { name = b.name; rest = b.rest; path_is = b.is; node = n; there = is }
