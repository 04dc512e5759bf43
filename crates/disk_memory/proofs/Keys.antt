-- A map of the program as a finite map.
use Rattle.std.proofs.Common.{◌≡◌, List, [], ◌∷◌, map, Some, cond, Bool, true, false, ◌&&◌, refl, sym, ◌∙◌, ap, subst}
use Rattle.std.specs.Prelude.{option_map}
use Rattle.std.specs.List.{AllByRecursion}
use Rattle.std.specs.declared.cmp.Ordering.TheVariants.{Less}
use Rattle.std.specs.Ordering.{eq_by_cmp, is_lt}
use Rattle.std.specs.List.Sorted.{IsStrictlySortedBy}
use Rattle.std.specs.BTreeMap as tree
use Rattle.std.specs.Map.{lookup}
use Rattle.std.specs.FinMap.{FinMap, keys, find, get, is_sorted, from_sorted, from_entries, entries-from_sorted, get-from_sorted, get-from_entries, same_map}
use lib.Dec.{T}
use Rattle.outside.specs.Names.{Names, path_cmp}
use Rattle.outside.specs.Order.{path_total}
use Rattle.outside.proofs.Trees.{path_same}
use Rattle.disk_memory.specs.Recorded.{Mirrors}

-- two tests that hold
both : (a b : Bool) → T a → T b → T (a && b)
both true true p q = tt
both true false p q = q
both false b p q = p

module _ {A B : Type 0} (f : A → B) where
  abbrev pub seen : List (Names × A) → List (Names × B)
  seen entries = map (λ e. (e.0, f e.1)) entries

  abbrev below_all : Names → List (Names × B) → Bool
  below_all x [] = true
  below_all x (e ∷ es) = is_lt (path_cmp x e.0) && below_all x es

  -- a key below all others is below their entries
  below : (k : Names) (es : List (Names × A)) → AllByRecursion (λ y. path_cmp k y ≡ Less) (map (λ e. e.0) es) → T (below_all k (seen es))
  below k [] all = tt
  below k (e ∷ es) all = both (is_lt (path_cmp k e.0)) (below_all k (seen es)) (subst (λ r. T (is_lt r)) (sym all.0) tt) (below k es all.1)

  -- entries with rising keys are sorted
  rising : (es : List (Names × A)) → IsStrictlySortedBy path_cmp (map (λ e. e.0) es) → T (is_sorted path_cmp (seen es))
  unfolding IsStrictlySortedBy
  rising [] rises = tt
  rising (e ∷ es) rises = both (below_all e.0 (seen es)) (is_sorted path_cmp (seen es)) (below e.0 es rises.0) (rising es rises.1)

  -- what a look-up finds among entries whose values are mapped
  pub found : (q : Names) (es : List (Names × A)) → find path_cmp q (seen es) ≡ option_map f (lookup (tree.is_at (path_cmp q)) es)
  found q [] = refl
  found q (e ∷ es) =
      elim (eq_by_cmp path_cmp q e.0) as (λ b. cond b (Some (f e.1)) (find path_cmp q (seen es)) ≡ option_map f
      (cond b (Some e.1) (lookup (tree.is_at (path_cmp q)) es))) [
        | true ↦ refl
        | false ↦ found q es
      ]

  -- entries whose values are mapped have the same keys
  firsts : (es : List (Names × A)) → map (λ e. e.0) (seen es) ≡ map (λ e. e.0) es
  firsts [] = refl
  firsts (e ∷ es) = ap (λ (ks : List Names). e.0 ∷ ks) (firsts es)

  -- the entries of a map, as a finite map, have at each path what the map has
  pub get-seen : (kept : tree.BTreeMap Names A) (q : Names) → get (from_entries {R = path_cmp} (seen kept.entries)) q ≡ option_map f (tree.get path_cmp kept q)
  get-seen kept q = get-from_entries path_total (seen kept.entries) q ∙ found q kept.entries

  -- both have the same keys in the same order
  pub keys_same : (told : FinMap path_cmp B) (kept : tree.BTreeMap Names A) → Mirrors f told kept → tree.IsOrdered path_cmp kept → keys told ≡ tree.keys kept
  keys_same told kept mirrors ordered =
      let rises = rising kept.entries ordered in
      let same : from_sorted {R = path_cmp} (seen kept.entries) ≡ told =
      same_map path_total path_same _ told (λ q. get-from_sorted path_cmp (seen kept.entries) q rises ∙ found q kept.entries ∙ mirrors q) in
      ap (λ t. keys t) (sym same) ∙ ap (λ (es : List (Names × B)). map (λ e. e.0) es) (entries-from_sorted path_cmp (seen kept.entries) rises)
      ∙ firsts kept.entries
