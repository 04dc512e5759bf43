-- Arrays read as lists of items.
use Rattle.std.proofs.Common.{◌≡◌, List, [], ◌∷◌, Result, Vec, Global, map, refl, ap, ◌∙◌}
use Rattle.serde_json.proofs.Views.{view-Array}
use Rattle.serde_json.specs.Data.{Data, array}
use Rattle.serde_json.specs.View.{view, items_of}
use Rattle.serde_json.specs.declared.value.Value.{Value, Array}
use Rattle.json_trees.specs.Collected.{result_map, collected}
use Rattle.json_trees.specs.Scalar.{item_of, values_of, scalar_of}
use Rattle.json_trees.specs.declared.item.Item.{Item}
use Rattle.json_trees.specs.declared.scalar.Scalar.TheVariants as scalar
use Rattle.json_trees.specs.declared.scalar_error.ScalarError.{ScalarError}

values_of-items_of : (ds : List Data) → values_of (items_of ds) ≡ ds
values_of-items_of [] = refl
values_of-items_of (d ∷ ds) = ap (λ l. d ∷ l) (values_of-items_of ds)

-- an array of some values is the list of the items that they are
pub scalar_of-array : (ds : List Data) (items : Result (List Item) ScalarError) → collected item_of ds ≡ items
    → scalar_of (array (items_of ds)) ≡ result_map scalar.List items
scalar_of-array ds items h = ap (λ l. result_map scalar.List (collected item_of l)) (values_of-items_of ds) ∙ ap (result_map scalar.List) h

-- the same of an array as it is read
pub scalar_of-Array : (value : Value) (values : Vec Value Global) (items : Result (List Item) ScalarError) → value ≡ Array values
    → collected item_of (map view values.items) ≡ items
    → scalar_of (view value) ≡ result_map scalar.List items
scalar_of-Array value values items is h = ap (λ v. scalar_of (view v)) is ∙ ap scalar_of (view-Array values) ∙ scalar_of-array (map view values.items) items h
