-- Scalars in range, and removals, can be written and read back as leaves.
use Rattle.std.proofs.Common.{◌≡◌, None, option_map, refl, ap, ◌∙◌}
use Rattle.std.specs.Result.{result_ok}
use Rattle.serde_json.specs.Find.{as_object}
use Rattle.json_trees.specs.Nested.{IsWritable}
use Rattle.json_trees.specs.Scalar.{scalar_data}
use Rattle.json_trees.specs.Tree.{scalar_leaf, pending_leaf}
use Rattle.json_trees.specs.Written.{ScalarInRange}
use Rattle.json_trees.specs.declared.pending.Pending.TheVariants.{Put}
use Rattle.json_trees.specs.declared.scalar.Scalar.{Scalar}
use Rattle.json_trees.specs.declared.scalar.Scalar.TheVariants as scalar
use Rattle.json_trees.proofs.Scalars.{IsReadable-scalar_data, scalar_of-scalar_data}

no_object : (s : Scalar) → as_object (scalar_data s) ≡ None
no_object (scalar.Bool b) = refl
no_object (scalar.Int z) = refl
no_object (scalar.Text s) = refl
no_object (scalar.List items) = refl

put_leaf : (s : Scalar) → pending_leaf (scalar_data s) ≡ option_map Put (scalar_leaf (scalar_data s))
put_leaf (scalar.Bool b) = refl
put_leaf (scalar.Int z) = refl
put_leaf (scalar.Text s) = refl
put_leaf (scalar.List items) = refl

-- a scalar in range can be written
pub scalar_writable : (s : Scalar) → ScalarInRange s → IsWritable scalar_leaf s (scalar_data s)
scalar_writable s h = record { readable = IsReadable-scalar_data s h; reads_as = ap result_ok (scalar_of-scalar_data s h); no_object = no_object s }

-- so can a pending scalar in range
pub put_writable : (s : Scalar) → ScalarInRange s → IsWritable pending_leaf (Put s) (scalar_data s)
put_writable s h = record {
  readable = IsReadable-scalar_data s h;
  reads_as = put_leaf s ∙ ap (λ r. option_map Put (result_ok r)) (scalar_of-scalar_data s h);
  no_object = no_object s;
}
