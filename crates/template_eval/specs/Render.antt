-- What a template renders to: a recursion over its tree.
use Rattle.std.specs.Prelude.{ℕ, ◌+◌, Bool, not, List, [], ◌∷◌, ◌++◌, map, Option, Some, Result, Ok, Err, if◌then◌else◌}
use Rattle.std.specs.List.{join_by}
use Rattle.base64.specs.Engines.{standard}
use Rattle.base64.specs.GeneralPurpose.{decode_of}
use Rattle.base64.specs.declared.decode.DecodeError.{DecodeError}
use Rattle.json_trees.specs.declared.item.Item.{Item}
use Rattle.json_trees.specs.declared.item.Item.TheVariants as value
use Rattle.json_trees.specs.declared.scalar.Scalar.TheVariants.{Text, List as Listed}
use Rattle.settings_tree.specs.Content.{Contents}
use Rattle.settings_tree.specs.declared.os.OsName.{OsName}
use Rattle.template_reader.specs.Bytes.{part}
use Rattle.template_reader.specs.Tree.{Tree, Branch, walk_of, done, node, text, print, block, test, each}
use Rattle.template_reader.specs.declared.expr.Expr.{Expr}
use Rattle.template_reader.specs.declared.expr.Expr.TheVariants.{Plain, Default, Decode, Json, JoinArray, JoinMap}
use Rattle.template_reader.specs.declared.walk.Walk.{Walk}
use Rattle.template_eval.specs.Place.{Place, item, Here, place_at, key_place}
use Rattle.template_eval.specs.Place as place
use Rattle.template_eval.specs.Node.{Node, missing, scalar, label, items, children, is_true}
use Rattle.template_eval.specs.Node as nodes
use Rattle.template_eval.specs.Written.{item_text, literal_text, path_text, child_text}
use Rattle.template_eval.specs.Quoting.{scalar_json, item_value}
use Rattle.template_eval.specs.Rendered.{Rendered, onto, both, joined}
use Rattle.template_eval.specs.declared.render_error.RenderError.TheVariants.{Missing, NotScalar, NotList, BadBase64}

-- The text of a node, which has to be a scalar; the path is that of a refusal.
abbrev pub node_text : List ℕ → Node → Rendered
node_text path missing = Err (Missing path)
node_text path (scalar i) = Ok (item_text i)
node_text path (label name) = Ok name
node_text path (items is) = Err (NotScalar path)
node_text path (children places) = Err (NotScalar path)

-- `default`: the literal's text where there is nothing.
abbrev pub default_text : List ℕ → List ℕ → Node → Rendered
default_text literal path missing = Ok literal
default_text literal path n = node_text path n

-- The bytes that were decoded, if the text was base64.
abbrev pub decoded : List ℕ → Result (List ℕ) DecodeError → Rendered
decoded path (Ok bytes) = Ok bytes
decoded path (Err e) = Err (BadBase64 path)

-- The bytes whose padded base64 in the standard alphabet a scalar's text is.
abbrev pub decoded_item : List ℕ → Item → Rendered
decoded_item path (value.Bool b) = Err (BadBase64 path)
decoded_item path (value.Int z) = Err (BadBase64 path)
decoded_item path (value.Text t) = decoded path (decode_of standard t)

-- `base64_decode`.
abbrev pub decode_text : List ℕ → Node → Rendered
decode_text path missing = Err (Missing path)
decode_text path (scalar i) = decoded_item path i
decode_text path (label name) = decoded path (decode_of standard name)
decode_text path (items is) = Err (NotScalar path)
decode_text path (children places) = Err (NotScalar path)

-- `json`: a scalar or a list, but no map.
abbrev pub json_node : List ℕ → Node → Rendered
json_node path missing = Err (Missing path)
json_node path (scalar i) = Ok (scalar_json (item_value i))
json_node path (label name) = Ok (scalar_json (Text name))
json_node path (items is) = Ok (scalar_json (Listed is))
json_node path (children places) = Err (NotScalar path)

-- `join_array`.
abbrev pub join_array_text : List ℕ → List ℕ → Node → Rendered
join_array_text joiner path missing = Err (Missing path)
join_array_text joiner path (items is) = Ok (join_by item_text joiner is)
join_array_text joiner path n = Err (NotList path)

-- The name of a child.
abbrev pub name_of : Place → List ℕ
name_of place.nowhere = []
name_of (place.in_tree path) = place.last_name path
name_of (place.system s) = s.name
name_of (place.item i) = []
name_of (place.label name) = []

-- A child of `join_map`: its name, the joiner and its text.
abbrev pub child_pair : Contents → List OsName → List ℕ → Walk → Place → Rendered
child_pair content os joiner path p = onto (name_of p ++ joiner) (node_text (child_text path (name_of p)) (nodes.node content os p))

-- `join_map` where there is nothing.
abbrev pub no_map_text : Bool → List ℕ → Rendered
no_map_text fail path = if fail then Err (Missing path) else Ok []

-- `join_map`, where each child is rendered by the function.
abbrev pub join_map_text : (Place → Rendered) → List ℕ → Bool → List ℕ → Node → Rendered
join_map_text pair separator fail path missing = no_map_text fail path
join_map_text pair separator fail path (children places) = joined separator (map pair places)
join_map_text pair separator fail path n = Err (NotList path)

-- What is where a path leads.
abbrev pub node_at : Contents → List OsName → Option Here → Walk → Node
node_at content os here path = nodes.node content os (place_at here path)

-- What an expression prints of what is where its path leads.
abbrev pub print_text : Contents → List OsName → Expr → Node → Rendered
print_text content os (Plain path) n = node_text (path_text path) n
print_text content os (Default literal path) n = default_text (literal_text literal) (path_text path) n
print_text content os (Decode path) n = decode_text (path_text path) n
print_text content os (Json path) n = json_node (path_text path) n
print_text content os (JoinArray joiner path) n = join_array_text joiner (path_text path) n
print_text content os (JoinMap joiner separator fail path) n = join_map_text (child_pair content os joiner path) separator fail (path_text path) n

-- What an expression prints.
abbrev pub expr_text : Contents → List OsName → Option Here → Expr → Rendered
expr_text content os here e = print_text content os e (node_at content os here (walk_of e))

-- Once for each of these, which have the indices from n on.
abbrev pub for_each : (Here → Rendered) → ℕ → List Place → Rendered
for_each first n [] = Ok []
for_each first n (p ∷ ps) = both (first (record { this = p; index = n })) (for_each first (n + 1) ps)

-- Once for each of these, or the other part where there is none.
abbrev pub each_of : (Here → Rendered) → Rendered → List Place → Rendered
each_of first other [] = other
each_of first other (p ∷ ps) = for_each first 0 (p ∷ ps)

-- An each over a node, which has to be a list or a map.
abbrev pub each_text : List ℕ → (Here → Rendered) → Rendered → Node → Rendered
each_text path first other missing = Err (Missing path)
each_text path first other (scalar i) = Err (NotList path)
each_text path first other (label name) = Err (NotList path)
each_text path first other (items is) = each_of first other (map item is)
each_text path first other (children places) = each_of first other places

-- Whether the first part of an if, or of an unless, is rendered.
abbrev pub is_first : Bool → Bool → Bool
is_first unless truth = if unless then not truth else truth

-- What nodes render to, one after another, with the item or the child of the innermost each as `here`.
abbrev mutual
  pub render : Contents → List OsName → List ℕ → Tree → Option Here → Rendered
  render content os source done here = Ok []
  render content os source (node b t) here = both (render_one content os source b here) (render content os source t here)

  pub render_one : Contents → List OsName → List ℕ → Branch → Option Here → Rendered
  render_one content os source (text s) here = Ok (part s.start s.end source)
  render_one content os source (print e) here = expr_text content os here e
  render_one content os source (block (test unless path) first other) here =
      if is_first unless (is_true (node_at content os here path)) then render content os source first here else render content os source other here
  render_one content os source (block (each path) first other) here =
      each_text (path_text path) (λ h. render content os source first (Some h)) (render content os source other here) (node_at content os here path)
