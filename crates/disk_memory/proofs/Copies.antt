-- A map that is copied entry by entry.
use Rattle.std.proofs.Common.{◌≡◌, List, [], ◌∷◌, Option, Some, None, refl, sym, ◌∙◌, ap}
use Rattle.std.specs.Ordering.{eq_by_cmp}
use Rattle.std.specs.BTreeMap.{BTreeMap, get, is_at, IsOrdered, Updates}
use Rattle.std.specs.Map.{lookup, update_all}
use Rattle.std.proofs.lemmas.Map.Made.{update_all_none}
use Rattle.std.proofs.lemmas.Map.Keys.{IsDistinct-from_sorted}
use Rattle.outside.specs.Names.{Names, path_cmp}
use Rattle.outside.specs.Order.{paths_equal}

module _ {A : Type 0} where
  -- nothing is copied yet
  pub copies_none : (nodes copy : BTreeMap Names A) (left : List (Names × A)) → copy.entries ≡ [] → left ≡ nodes.entries → IsOrdered path_cmp nodes
      → (q : Names) → update_all (eq_by_cmp path_cmp) (get path_cmp copy) left q ≡ get path_cmp nodes q
  copies_none nodes copy left none all ordered q =
      ap (λ (f : Names → Option A). update_all (eq_by_cmp path_cmp) f left q) (λ i q'. lookup (is_at (path_cmp q')) (none i))
      ∙ ap (λ (es : List (Names × A)). update_all (eq_by_cmp path_cmp) (λ _. None) es q) all
      ∙ update_all_none paths_equal (eq_by_cmp path_cmp) (λ x y. refl) nodes.entries q (IsDistinct-from_sorted path_cmp _ ordered)

  -- one entry more
  pub copies_more : (old new : BTreeMap Names A) (path : Names) (node : A) (left rest : List (Names × A)) (wanted : Names → Option A)
      → left ≡ (path, node) ∷ rest → Updates path_cmp old new path (Some node)
      → ((q : Names) → update_all (eq_by_cmp path_cmp) (get path_cmp old) left q ≡ wanted q) → (q : Names)
      → update_all (eq_by_cmp path_cmp) (get path_cmp new) rest q ≡ wanted q
  copies_more old new path node left rest wanted next updates so_far q =
      ap (λ (f : Names → Option A). update_all (eq_by_cmp path_cmp) f rest q) (λ i q'. updates.0 q' i)
      ∙ ap (λ (es : List (Names × A)). update_all (eq_by_cmp path_cmp) (get path_cmp old) es q) (sym next)
      ∙ so_far q
