-- What single texts are by the definitions, computed.
use Rattle.std.proofs.Common.{◌≡◌, [], ◌∷◌, codes, pos, negsuc, true, Ok, Err, refl}
use Rattle.std.specs.Char.{encode_utf8}
use Rattle.std.specs.Str.{is_utf8, chars}
use Rattle.key_names.specs.Key.{printed}
use Rattle.key_names.specs.Segment.{file_name}
use Rattle.serde_json.proofs.OnLiterals.{serde_json_on_literals}
use Rattle.json_trees.specs.Scalar.{scalar_read}
use Rattle.json_trees.specs.Tree.{scalar_leaf, pending_leaf, flattened}
use Rattle.json_trees.specs.declared.item.Item.TheVariants as item
use Rattle.json_trees.specs.declared.pending.Pending.TheVariants.{Gone}
use Rattle.json_trees.specs.declared.scalar.Scalar.TheVariants.{Bool, Int, List}
use Rattle.json_trees.specs.declared.scalar_error.ScalarError.TheVariants.{NotJson, Null, NotInt, Object, Nested}
use Rattle.json_trees.specs.declared.tree_error.TreeError.TheVariants.{NotObject, BadKey, BadValue}

any_spelling : scalar_read (codes " [1, \"a\"] ") ≡ Ok (List (item.Int (pos 1) ∷ item.Text (codes "a") ∷ []))
unfolding serde_json_on_literals is_utf8 chars encode_utf8
any_spelling = refl

fraction : scalar_read (codes "1.5") ≡ Err NotInt
unfolding serde_json_on_literals is_utf8 chars encode_utf8
fraction = refl

beyond_i64 : scalar_read (codes "9223372036854775808") ≡ Err NotInt
unfolding serde_json_on_literals is_utf8 chars encode_utf8
beyond_i64 = refl

least_i64 : scalar_read (codes "-9223372036854775808") ≡ Ok (Int (negsuc 9223372036854775807))
unfolding serde_json_on_literals is_utf8 chars encode_utf8
least_i64 = refl

nothing : scalar_read (codes "null") ≡ Err Null
unfolding serde_json_on_literals is_utf8 chars encode_utf8
nothing = refl

nested : scalar_read (codes "[[1]]") ≡ Err Nested
unfolding serde_json_on_literals is_utf8 chars encode_utf8
nested = refl

an_object : scalar_read (codes "{}") ≡ Err Object
unfolding serde_json_on_literals is_utf8 chars encode_utf8
an_object = refl

first_fault : scalar_read (codes "[1.5,{}]") ≡ Err NotInt
unfolding serde_json_on_literals is_utf8 chars encode_utf8
first_fault = refl

bad_bytes : scalar_read (34 ∷ 255 ∷ 34 ∷ []) ≡ Err NotJson
unfolding serde_json_on_literals is_utf8 chars encode_utf8
bad_bytes = refl

two_pairs : flattened scalar_leaf [] (codes "{\"c\":true,\"a\":{\"b\":1}}")
    ≡ Ok ((codes "a" ∷ codes "b" ∷ [], Int (pos 1)) ∷ (codes "c" ∷ [], Bool true) ∷ [])
unfolding serde_json_on_literals is_utf8 chars encode_utf8 printed file_name
two_pairs = refl

empty_below_no_key : flattened scalar_leaf [] (codes "{\"\":{}}") ≡ Err BadKey
unfolding serde_json_on_literals is_utf8 chars encode_utf8 printed file_name
empty_below_no_key = refl

first_bad_entry : flattened scalar_leaf [] (codes "{\"b\":{\"\":1},\"a\":1.5}") ≡ Err BadValue
unfolding serde_json_on_literals is_utf8 chars encode_utf8 printed file_name
first_bad_entry = refl

a_removal : flattened pending_leaf (codes "settings" ∷ []) (codes "{\"motd\":null}") ≡ Ok ((codes "settings" ∷ codes "motd" ∷ [], Gone) ∷ [])
unfolding serde_json_on_literals is_utf8 chars encode_utf8 printed file_name
a_removal = refl

no_patch : flattened pending_leaf (codes "settings" ∷ []) (codes "null") ≡ Err NotObject
unfolding serde_json_on_literals is_utf8 chars encode_utf8 printed file_name
no_patch = refl
