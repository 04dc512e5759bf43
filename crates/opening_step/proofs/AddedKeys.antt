-- The keys that the opening step adds.
use Rattle.std.proofs.Common.{◌≡◌, ◌&&◌, ◌++◌, ℕ, List, [], ◌∷◌, Option, Some, None, is_some, Bool, true, false, cond, not, map, filter, refl}
use Rattle.std.proofs.Common.{◌∙◌, ap}
use Rattle.std.specs.List.{flat_map}
use Rattle.std.specs.FinMap.{FinMap, get, contains_key, entries}
use Rattle.key_names.specs.Order.{key_cmp}
use Rattle.json_trees.specs.declared.scalar.Scalar.{Scalar}
use Rattle.settings_maps.specs.KeyList.{IsRising}
use Rattle.settings_tree.proofs.Rising.{some_rise}
use Rattle.opening_step.specs.Entries.{is_absent, added_key}
use Rattle.settings_machine.specs.Opening.{is_of_store}

pub added_flat : (live : FinMap key_cmp Scalar) (es : List (List (List ℕ) × Scalar))
    → flat_map (λ e. added_key live e.0) es ≡ map (λ e. e.0) (filter (λ e. is_of_store e.0 && not (contains_key live e.0)) es)
added_flat live [] = refl
added_flat live (e ∷ es) = by (is_of_store e.0) (get live e.0) (added_flat live es) where
  by : (s : Bool) (o : Option Scalar) → flat_map (λ e. added_key live e.0) es ≡ map (λ e. e.0) (filter (λ e. is_of_store e.0 && not (contains_key live e.0)) es)
      → cond (s && is_absent o) (e.0 ∷ []) [] ++ flat_map (λ e. added_key live e.0) es ≡ map (λ e. e.0)
      (cond (s && not (is_some o)) (e ∷ filter (λ e. is_of_store e.0 && not (contains_key live e.0)) es)
      (filter (λ e. is_of_store e.0 && not (contains_key live e.0)) es))
  by false o rest = rest
  by true None rest = ap (λ (l : List (List (List ℕ))). e.0 ∷ l) rest
  by true (Some v) rest = rest

-- They rise.
pub added_rise : (list : List (List (List ℕ))) (image live : FinMap key_cmp Scalar) → list ≡ flat_map (λ e. added_key live e.0) (entries image) → IsRising list
added_rise list image live is = some_rise image (λ e. is_of_store e.0 && not (contains_key live e.0)) list (is ∙ added_flat live (entries image))
