-- Worked rows: the definitions compute to what is written next to them.
use Rattle.std.proofs.Common.{◌≡◌, ℕ, List, [], ◌∷◌, Some, None, Ok, Err, refl, codes}
use Rattle.std.specs.Prelude.{pos, true, false}
use Rattle.std.specs.Fmt.{digits}
use Rattle.key_names.specs.Key.{printed}
use Rattle.json.specs.Print.{escape_byte}
use Rattle.json_trees.specs.declared.item.Item.TheVariants as value
use Rattle.settings_tree.specs.Content.{Contents}
use Rattle.settings_tree.specs.declared.os.OsName.{OsName}
use Rattle.template_reader.specs.Tree.{Tree, done, node, text, print}
use Rattle.template_reader.specs.declared.expr.Expr.TheVariants.{Plain}
use Rattle.template_reader.specs.declared.walk.Walk.TheVariants.{Root, This, AtKey, AtIndex}
use Rattle.base64.proofs.OnLiterals.{base64_on_literals}
use Rattle.template_eval.specs.Place.{in_tree}
use Rattle.template_eval.specs.Node.{Node, missing, scalar, label, items, children, is_true}
use Rattle.template_eval.specs.Written.{path_text, child_text}
use Rattle.template_eval.specs.Rendered.{joined}
use Rattle.template_eval.specs.Render.{node_text, default_text, decode_text, json_node, join_array_text, join_map_text, each_text, render}
use Rattle.template_eval.specs.declared.render_error.RenderError.TheVariants.{Missing, NotScalar, NotList, BadBase64}

-- The list `["a","b"]`.
abbrev servers : Node
servers = items (value.Text (codes "a") ∷ value.Text (codes "b") ∷ [])

-- The path `settings.motd`.
abbrev motd : List (List ℕ)
motd = codes "settings" ∷ codes "motd" ∷ []

module _ (content : Contents) (os : List OsName) where
  -- The source and the tree of `pool {{this}} iburst` and a line feed.
  abbrev source : List ℕ
  source = codes "pool {{this}} iburst\n"

  abbrev line : Tree
  line = node (text (record { start = 0; end = 5 })) (node (print (Plain (This None))) (node (text (record { start = 13; end = 21 })) done))

  -- An each over two items.
  two_items : each_text [] (λ h. render content os source line (Some h)) (Ok []) servers ≡ Ok (codes "pool a iburst\npool b iburst\n")
  two_items = refl

  -- An each over none.
  no_items : each_text [] (λ h. render content os source line (Some h)) (Ok []) (items []) ≡ Ok []
  no_items = refl

  -- The index and the key of the items of a list.
  indices : each_text [] (λ h. render content os source (node (print (Plain AtIndex)) (node (print (Plain AtKey)) done)) (Some h)) (Ok []) servers ≡ Ok
      (codes "0011")
  unfolding digits
  indices = refl

-- An each over a scalar, and over what is missing.
scalar_each : each_text (codes "a") (λ h. Ok []) (Ok []) (scalar (value.Bool true)) ≡ Err (NotList (codes "a"))
scalar_each = refl

missing_each : each_text (codes "a") (λ h. Ok []) (Ok []) missing ≡ Err (Missing (codes "a"))
missing_each = refl

-- An absent setting.
absent : node_text (path_text (Root motd)) missing ≡ Err (Missing (codes "settings.motd"))
unfolding printed
absent = refl

-- A list is no scalar.
list_printed : node_text (path_text (This None)) servers ≡ Err (NotScalar (codes "this"))
list_printed = refl

-- A default where there is nothing.
defaulted : default_text (codes "0") (codes "a") missing ≡ Ok (codes "0")
defaulted = refl

-- Items, joined.
array_joined : join_array_text (codes ", ") (codes "a") servers ≡ Ok (codes "a, b")
array_joined = refl

-- Children, joined: the first refusal counts.
children_joined : joined (codes ",") (Ok (codes "a=1") ∷ Ok (codes "b=2") ∷ []) ≡ Ok (codes "a=1,b=2")
children_joined = refl

refused_joined : joined (codes ",") (Ok (codes "a=1") ∷ Err (NotScalar (codes "b")) ∷ Err (Missing (codes "c")) ∷ []) ≡ Err (NotScalar (codes "b"))
refused_joined = refl

-- A map where there is nothing.
no_map : join_map_text (λ p. Ok []) [] false (codes "a") missing ≡ Ok []
no_map = refl

-- Base64 of RFC 4648.
hello : decode_text (codes "a") (scalar (value.Text (codes "aGVsbG8="))) ≡ Ok (codes "hello")
unfolding base64_on_literals
hello = refl

unpadded : decode_text (codes "a") (scalar (value.Text (codes "aGVsbG8"))) ≡ Err (BadBase64 (codes "a"))
unfolding base64_on_literals
unpadded = refl

-- Values as JSON.
json_text : json_node (codes "a") (scalar (value.Text (34 ∷ 92 ∷ 47 ∷ 10 ∷ 31 ∷ 127 ∷ []))) ≡ Ok (codes "\"\\\"\\\\/\\n\\u001f\\u007f\"")
unfolding escape_byte
json_text = refl

json_list : json_node (codes "a") (items (value.Text (codes "a") ∷ value.Int (pos 2) ∷ value.Bool false ∷ [])) ≡ Ok (codes "[\"a\",2,false]")
unfolding escape_byte digits
json_list = refl

json_name : json_node (codes "@key") (label (codes "0")) ≡ Ok (codes "\"0\"")
unfolding escape_byte
json_name = refl

json_map : json_node (codes "a") (children (in_tree motd ∷ [])) ≡ Err (NotScalar (codes "a"))
json_map = refl

-- The path of a child in quotes.
quoted_child : child_text (This None) (codes "c.d") ≡ codes "this.\"c.d\""
quoted_child = refl

-- The text `0` is true, a child's name `0` is false, and so is the number.
zero_text : is_true (scalar (value.Text (codes "0"))) ≡ true
zero_text = refl

zero_name : is_true (label (codes "0")) ≡ false
zero_name = refl

zero_number : is_true (scalar (value.Int (pos 0))) ≡ false
zero_number = refl
