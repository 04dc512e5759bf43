-- Lists in JSON values.
use Rattle.std.proofs.Common.{◌≡◌, List, [], ◌∷◌, Some, map, refl, ap, ◌∙◌}
use Rattle.serde_json.specs.Data.{Data, null, boolean, number, string, array, object}
use Rattle.serde_json.specs.Find.{as_array}
use Rattle.serde_json.specs.View.{view, items_view}
use Rattle.serde_json.specs.declared.value.Value.{Value}
use Rattle.json_trees.specs.Scalar.{values_of}
use Rattle.host_client.specs.Members.{items_in}

values_are : (vs : List Value) → map view vs ≡ values_of (items_view vs)
values_are [] = refl
values_are (v ∷ vs) = ap (λ (ds : List Data). view v ∷ ds) (values_are vs)

-- the items of a list that was found
pub items_are : (d : Data) (vs : List Value) → Some (items_view vs) ≡ as_array d → map view vs ≡ items_in d
items_are null vs e = cc
items_are (boolean b) vs e = cc
items_are (number n) vs e = cc
items_are (string s) vs e = cc
items_are (array ds) vs e = let same : items_view vs ≡ ds = cc in values_are vs ∙ ap values_of same
items_are (object ms) vs e = cc
