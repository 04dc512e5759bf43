-- Scalars as JSON values.
use Rattle.std.proofs.Common.{◌≡◌, ℕ, List, Ok, ok_or, option_map, map, refl, ap, ◌∙◌, arith}
use Rattle.std.specs.Str.{IsUtf8}
use Rattle.json.specs.Lex.{tokens}
use Rattle.serde_json.specs.Data.{array}
use Rattle.json_trees.specs.Collected.{result_and_then}
use Rattle.json_trees.specs.Scalar.{scalar_of, scalar_data, scalar_read, item_data}
use Rattle.json_trees.specs.Written.{data_tokens, ScalarInRange, IsReadable}
use Rattle.json_trees.specs.declared.scalar.Scalar.{Scalar}
use Rattle.json_trees.specs.declared.scalar.Scalar.TheVariants as scalar
use Rattle.json_trees.specs.declared.scalar_error.ScalarError.TheVariants.{NotJson}
use Rattle.json_trees.proofs.Integers.{IsReadable-of_integer, as_i64-of_integer}
use Rattle.json_trees.proofs.Lists.{of_items-items_data, numbers-items_data, depth-items_data, collected-item_data}
use Rattle.json_trees.proofs.Trip.{data_of-tokens}
use Rattle.json_trees.proofs.Values.{scalar_of-array}

-- the JSON value of a scalar in range reads back
pub IsReadable-scalar_data : (s : Scalar) → ScalarInRange s → IsReadable 1 (scalar_data s)
IsReadable-scalar_data (scalar.Bool b) h = record { reads_back = refl; numbers = tt; shallow = omega arith }
IsReadable-scalar_data (scalar.Int z) h = IsReadable-of_integer 1 z h
IsReadable-scalar_data (scalar.Text s) h = record { reads_back = refl; numbers = tt; shallow = omega arith }
IsReadable-scalar_data (scalar.List items) h = record {
  reads_back = ap (option_map array) (of_items-items_data items h);
  numbers = numbers-items_data items h;
  shallow = omega (arith, depth-items_data items);
}

-- the JSON value of a scalar in range is this scalar
pub scalar_of-scalar_data : (s : Scalar) → ScalarInRange s → scalar_of (scalar_data s) ≡ Ok s
scalar_of-scalar_data (scalar.Bool b) h = refl
scalar_of-scalar_data (scalar.Int z) h = rw (as_i64-of_integer z h) refl
scalar_of-scalar_data (scalar.Text s) h = refl
scalar_of-scalar_data (scalar.List items) h = scalar_of-array (map item_data items) _ (collected-item_data items h)

-- a text of UTF-8 with the tokens of a scalar in range reads as this scalar
pub scalar_read-tokens : (s : Scalar) (text : List ℕ) → ScalarInRange s → IsUtf8 text → tokens text ≡ data_tokens (scalar_data s) → scalar_read text ≡ Ok s
scalar_read-tokens s text h utf8 is =
    ap (λ o. result_and_then scalar_of (ok_or o NotJson)) (data_of-tokens (scalar_data s) 1 text (IsReadable-scalar_data s h) (omega arith) utf8 is)
    ∙ scalar_of-scalar_data s h
