-- Looking up a key in a list whose keys rise.
use Rattle.std.proofs.Common.{◌≡◌, ℕ, List, [], ◌∷◌, None, true, false, refl, ◌∙◌, ap}
use Rattle.std.specs.declared.cmp.Ordering.{Ordering}
use Rattle.std.specs.declared.cmp.Ordering.TheVariants.{Less, Equal, Greater}
use Rattle.std.specs.Ordering.{eq_by_cmp, is_eq, is_lt}
use Rattle.std.specs.FinMap.{find}
use Rattle.std.specs.FinMap.Entries.{below_all}
use Rattle.std.proofs.lemmas.Bool.{and_parts, cond-false}
use Rattle.key_names.specs.Order.{key_cmp, key_cmp-IsAntisymmetric}
use Rattle.json_trees.specs.declared.pending.Pending.{Pending}
use Rattle.settings_maps.proofs.NestedMaps.{tied_by}

abbrev Key : Type 0
Key = List (List ℕ)

-- What rises from after a key has no entry at it.
pub not_found : (q k : Key) (es : List (Key × Pending)) → eq_by_cmp key_cmp q k ≡ true → below_all key_cmp k es ≡ true → find key_cmp q es ≡ None
not_found q k [] same below = refl
not_found q k (e ∷ es) same below =
    let both = and_parts (is_lt (key_cmp k e.0)) (below_all key_cmp k es) below in
    cond-false _ _ _ (apart both.0) ∙ not_found q k es same both.1
  where
    less : (r : Ordering) → is_lt r ≡ true → is_eq r ≡ false
    less Less l = refl
    less Equal l = absurd (cc l)
    less Greater l = absurd (cc l)

    apart : is_lt (key_cmp k e.0) ≡ true → eq_by_cmp key_cmp q e.0 ≡ false
    apart l = ap (λ (z : Key). eq_by_cmp key_cmp z e.0) (key_cmp-IsAntisymmetric q k (tied_by (key_cmp q k) same)) ∙ less (key_cmp k e.0) l
