-- Lists of keys that compare as the same are the same.
use Rattle.std.proofs.Common.{◌≡◌, ◌∙◌, List, ℕ, ap, sym}
use Rattle.std.specs.Bool.{Decides}
use Rattle.std.specs.Ordering.{eq_by_cmp}
use Rattle.std.proofs.lemmas.Map.Views.{tells_apart}
use Rattle.key_names.specs.Order.{key_cmp, keys_equal, key_cmp-IsAntisymmetric}

-- Keys tie exactly where they are the same.
pub keys_tie : (k q : List (List ℕ)) → Decides (eq_by_cmp key_cmp k q) (k ≡ q)
keys_tie k q = (λ tie. tells_apart key_cmp-IsAntisymmetric k q tie, λ same. ap (eq_by_cmp key_cmp k) (sym same) ∙ keys_equal.refl k)
