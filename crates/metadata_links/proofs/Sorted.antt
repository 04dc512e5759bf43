-- Entries that rise by key: the finite map that they are seen as, and the search in them.
use Rattle.std.proofs.Common.{◌≡◌, ◌<◌, ℕ, List, length, get_or, Option, Some, None, IsTrue, T, Bool, sym, ◌∙◌, ap, subst}
use Rattle.std.specs.declared.cmp.Ordering.{Ordering}
use Rattle.std.specs.declared.cmp.Ordering.TheVariants.{Less, Equal, Greater}
use Rattle.std.specs.Ordering.{ordering_index}
use Rattle.std.specs.Cmp.{IsTotalOrder}
use Rattle.std.specs.List.Sorted.{IsNonDecreasingBy, IsPartitionPoint}
use Rattle.std.specs.FinMap.{FinMap, IsAntisymmetric, find, is_sorted, entries, get, from_sorted, entries-from_sorted, get-from_sorted}
use Rattle.settings_maps.proofs.SortedEntries.{entries_searchable, find_found, find_missing}

T_of : (b : Bool) → IsTrue b → T b
T_of b holds = subst T (sym holds) tt

-- The entries of the map are the list.
pub entries_of : {K X : Type 0} (R : K → K → Ordering) (es : List (K × X)) → IsTrue (is_sorted R es) → entries (from_sorted {R = R} es) ≡ es
entries_of R es rises = entries-from_sorted R es (T_of _ rises)

-- The list, as it is read, rises.
pub rises_seen : {K X : Type 0} (R : K → K → Ordering) (es now : List (K × X)) → IsTrue (is_sorted R es) → now ≡ es → IsTrue (is_sorted R now)
rises_seen {K} {X} R es now rises same = subst (λ (l : List (K × X)). IsTrue (is_sorted R l)) (sym same) rises

module _ {K X : Type 0} {R : K → K → Ordering} where
  -- The list, as it is read, has the entries of the map.
  pub slice_seen : (es now : List (K × X)) (v : FinMap R X) → from_sorted es ≡ v → IsTrue (is_sorted R es) → now ≡ es → now ≡ entries v
  slice_seen es now v is rises same = same ∙ sym (entries_of R es rises) ∙ ap entries is

  -- What is found in the list is in the map.
  pub get_seen : (es now : List (K × X)) (v : FinMap R X) (q : K) (r : Option X) → from_sorted es ≡ v → IsTrue (is_sorted R es) → now ≡ es → r ≡ find R q now
      → r ≡ get v q
  get_seen es now v q r is rises same found = found ∙ ap (find R q) same ∙ sym (get-from_sorted R es q (T_of _ rises)) ∙ ap (λ (w : FinMap R X). get w q) is

-- ---- the search

module _ {K X : Type 0} {R : K → K → Ordering} (o : IsTotalOrder R) where
  -- The keys before place i are below k, and the others above it.
  abbrev Point : List (K × X) → K → ℕ → Type 0
  Point es k i = IsPartitionPoint (λ e. R e.0 k ≡ Less) (λ e. R e.0 k ≡ Greater) es i

  -- A search that hits.
  pub hit : IsAntisymmetric R → (es : List (K × X)) (k : K) (i : ℕ) (d : K × X) → IsTrue (is_sorted R es) → i < length es
      → ((d : K × X) → R (get_or es i d).0 k ≡ Equal) → Some (get_or es i d).1 ≡ find R k es
  hit same es k i d rises low at = sym (find_found o es i k d rises low (λ d. same _ _ (at d)))

  -- A search that misses.
  pub miss : (es : List (K × X)) (k : K) (i : ℕ) → IsTrue (is_sorted R es) → (IsNonDecreasingBy (λ e. ordering_index (R e.0 k)) es → Point es k i)
      → None ≡ find R k es
  miss es k i rises point = sym (find_missing o es i k (point (entries_searchable o es k rises)))

pub ruleset sorted_entries = (entries_of, slice_seen, get_seen, rises_seen)
