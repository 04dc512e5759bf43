-- A copy of a `BTreeMap`, entry by entry.
use Rattle.std.proofs.Common.{◌≡◌, List, [], ◌∷◌, ◌++◌, refl, sym, ◌∙◌, ap, subst, append_assoc}
use Rattle.std.specs.BTreeMap as tree
use Rattle.std.specs.declared.cmp.Ordering.{Ordering}
use Rattle.std.specs.declared.cmp.Ordering.TheVariants.{Less}
use Rattle.std.specs.Ordering.{ordering_reverse, match_ordering}
use Rattle.std.specs.FinMap.{FinMap, from_entries}
use Rattle.std.specs.Cmp.{IsTotalOrder}
use Rattle.std.specs.BTreeMap.{insert_entry}
use Rattle.std.specs.Map.{keys_of}
use Rattle.std.specs.List.Sorted.{IsStrictlySortedBy}
use Rattle.std.specs.List.{AllByRecursion}
use Rattle.std.proofs.lemmas.Map.Keys.{sorted_head, sorted_tail}

module _ {K X : Type 0} {R : K → K → Ordering} (o : IsTotalOrder R) where
  first_below : (e : K × X) (es rest : List (K × X)) (k : K) (v : X) → AllByRecursion (λ y. R e.0 y ≡ Less) (keys_of (es ++ (k, v) ∷ rest)) → R e.0 k ≡ Less
  first_below e [] rest k v below = below.0
  first_below e (f ∷ es) rest k v below = first_below e es rest k v below.1

  -- An entry that is above all others goes to the end.
  insert_last : (es rest : List (K × X)) (k : K) (v : X) → IsStrictlySortedBy R (keys_of (es ++ (k, v) ∷ rest)) → insert_entry R es k v ≡ es ++ (k, v) ∷ []
  insert_last [] rest k v rises = refl
  insert_last (e ∷ es) rest k v rises = ap (λ r. match_ordering r ((k, v) ∷ e ∷ es) ((e.0, v) ∷ es) (e ∷ insert_entry R es k v))
      (o.antisymm k e.0 ∙ ap ordering_reverse (first_below e es rest k v (sorted_head R e.0 _ rises)))
      ∙ ap (λ (t : List (K × X)). e ∷ t) (insert_last es rest k v (sorted_tail R e.0 _ rises))

  -- The next entry of the map is put at the end of the copy.
  pub copied_more : (all done now left : List (K × X)) (k : K) (v : X) → done ++ (k, v) ∷ left ≡ all → IsStrictlySortedBy R (keys_of all)
      → now ≡ insert_entry R done k v → now ++ left ≡ all
  copied_more all done now left k v whole rises put = ap (λ (l : List (K × X)). l ++ left)
      (put ∙ insert_last done left k v (subst (λ (l : List (K × X)). IsStrictlySortedBy R (keys_of l)) (sym whole) rises))
      ∙ append_assoc done ((k, v) ∷ []) left ∙ whole

-- Trees with the same entries are one map.
pub same_seen : {K X : Type 0} {R : K → K → Ordering} (m n : tree.BTreeMap K X) (v : FinMap R X) → from_entries m.entries ≡ v → n.entries ≡ m.entries
    → from_entries {R = R} n.entries ≡ v
same_seen {K} {X} {R} m n v is same = ap (λ (es : List (K × X)). from_entries {R = R} es) same ∙ is

pub ruleset same_entries = (same_seen)
