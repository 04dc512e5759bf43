-- Which scalar JSON is, and which JSON a scalar is.
use Rattle.std.specs.Prelude.{ℕ, ℤ, List, [], ◌∷◌, map, Result, Ok, Err, ok_or}
use Rattle.serde_json.specs.Data.{Num, Data, null, boolean, number, string, array, object, Items, no_items, item}
use Rattle.serde_json.specs.Find.{as_i64, of_integer}
use Rattle.serde_json.specs.View.{items_of}
use Rattle.serde_json.specs.Written.{compact_text}
use Rattle.json_trees.specs.Collected.{result_and_then, result_map, collected}
use Rattle.json_trees.specs.Json.{data_of}
use Rattle.json_trees.specs.declared.item.Item.{Item}
use Rattle.json_trees.specs.declared.item.Item.TheVariants as item
use Rattle.json_trees.specs.declared.scalar.Scalar.{Scalar}
use Rattle.json_trees.specs.declared.scalar.Scalar.TheVariants as scalar
use Rattle.json_trees.specs.declared.scalar_error.ScalarError.{ScalarError}
use Rattle.json_trees.specs.declared.scalar_error.ScalarError.TheVariants.{NotJson, Null, NotInt, Object, Nested}

-- The number as a whole number of an i64.
abbrev pub integer_of : Num → Result ℤ ScalarError
integer_of n = ok_or (as_i64 n) NotInt

-- The item that a value in a list is, or why it is none.
abbrev pub item_of : Data → Result Item ScalarError
item_of null = Err Null
item_of (boolean b) = Ok (item.Bool b)
item_of (number n) = result_map item.Int (integer_of n)
item_of (string s) = Ok (item.Text s)
item_of (array ds) = Err Nested
item_of (object ms) = Err Nested

-- The values of an array.
abbrev pub values_of : Items → List Data
values_of no_items = []
values_of (item d ds) = d ∷ values_of ds

-- The scalar that a JSON value is, or why it is none; of several faults in a list the first counts.
abbrev pub scalar_of : Data → Result Scalar ScalarError
scalar_of null = Err Null
scalar_of (boolean b) = Ok (scalar.Bool b)
scalar_of (number n) = result_map scalar.Int (integer_of n)
scalar_of (string s) = Ok (scalar.Text s)
scalar_of (array ds) = result_map scalar.List (collected item_of (values_of ds))
scalar_of (object ms) = Err Object

-- The scalar that the bytes are, or why they are none.
abbrev pub scalar_read : List ℕ → Result Scalar ScalarError
scalar_read bytes = result_and_then scalar_of (ok_or (data_of bytes) NotJson)

-- The JSON value of an item.
abbrev pub item_data : Item → Data
item_data (item.Bool b) = boolean b
item_data (item.Int z) = number (of_integer z)
item_data (item.Text s) = string s

-- The JSON value of a scalar.
abbrev pub scalar_data : Scalar → Data
scalar_data (scalar.Bool b) = boolean b
scalar_data (scalar.Int z) = number (of_integer z)
scalar_data (scalar.Text s) = string s
scalar_data (scalar.List items) = array (items_of (map item_data items))

-- The compact text of a scalar.
abbrev pub json_text : Scalar → List ℕ
json_text scalar = compact_text (scalar_data scalar)
