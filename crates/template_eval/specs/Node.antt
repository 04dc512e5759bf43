-- What is at a place of the tree: of the live values whose key doesn't begin with `os`, and of `os`,
-- a map of the names of the operating system to their texts.
use Rattle.std.specs.Prelude.{ℕ, pos, Bool, false, not, ◌&&◌, ◌==◌, List, [], ◌∷◌, map, drop, find, length, Option, Some, None, codes, if◌then◌else◌}
use Rattle.std.specs.FinMap.{get}
use Rattle.std.specs.Ordering.{int_eq}
use Rattle.std.specs.Str.{bytes_eq}
use Rattle.key_names.specs.Key.{is_prefix}
use Rattle.json_trees.specs.declared.item.Item.{Item}
use Rattle.json_trees.specs.declared.item.Item.TheVariants as value
use Rattle.json_trees.specs.declared.scalar.Scalar.{Scalar}
use Rattle.json_trees.specs.declared.scalar.Scalar.TheVariants.{Bool as Truth, Int, Text, List as Listed}
use Rattle.settings_tree.specs.Content.{Contents}
use Rattle.settings_tree.specs.declared.os.OsName.{OsName}
use Rattle.template_eval.specs.Place.{Path, Place, nowhere, in_tree, system, item}
use Rattle.template_eval.specs.Place as place
use Rattle.template_eval.specs.Children.{children_below}

-- A scalar, the name of a child, the items of a list, the children of a map, or nothing.
pub data Node : Type 0 where
  missing : Node
  scalar : Item → Node
  label : List ℕ → Node
  items : List Item → Node
  children : List Place → Node

-- The node that a value is.
abbrev pub scalar_node : Scalar → Node
scalar_node (Truth b) = scalar (value.Bool b)
scalar_node (Int z) = scalar (value.Int z)
scalar_node (Text t) = scalar (value.Text t)
scalar_node (Listed is) = items is

-- A value is there, or else children are, or nothing.
abbrev pub value_node : Option Scalar → List Place → Node
value_node (Some s) places = scalar_node s
value_node None [] = missing
value_node None (p ∷ ps) = children (p ∷ ps)

-- The text of a name of the operating system, if there is such a name.
abbrev pub text_node : Option OsName → Node
text_node None = missing
text_node (Some s) = scalar (value.Text s.text)

-- What is below `os`.
abbrev pub os_node : List OsName → Path → Node
os_node os [] = children (map system os)
os_node os (name ∷ []) = text_node (find (λ s. bytes_eq s.name name) os)
os_node os (name ∷ next ∷ more) = missing

-- The path of the operating system.
abbrev pub os_path : Path
os_path = codes "os" ∷ []

-- What is at a path of the tree.
abbrev pub tree_node : Contents → List OsName → Path → Node
tree_node content os path =
    if is_prefix os_path path then os_node os (drop 1 path) else value_node (get content.values path) (children_below content.values path)

-- What is at a place.
abbrev pub node : Contents → List OsName → Place → Node
node content os nowhere = missing
node content os (in_tree path) = tree_node content os path
node content os (system s) = scalar (value.Text s.text)
node content os (item i) = scalar i
node content os (place.label name) = label name

-- False are `false`, 0 and the empty text.
abbrev pub is_true_item : Item → Bool
is_true_item (value.Bool b) = b
is_true_item (value.Int z) = not (int_eq z (pos 0))
is_true_item (value.Text t) = not (length t == 0)

-- False besides are the empty list, the empty map, what is missing, and a child's name that is empty or `0`.
abbrev pub is_true : Node → Bool
is_true missing = false
is_true (scalar i) = is_true_item i
is_true (label name) = not (length name == 0) && not (bytes_eq name (codes "0"))
is_true (items is) = not (length is == 0)
is_true (children places) = not (length places == 0)
