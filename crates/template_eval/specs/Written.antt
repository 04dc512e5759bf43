-- What is written: the texts of scalars and literals, and paths as they are in a template.
use Rattle.std.specs.Prelude.{ℕ, Bool, List, ◌∷◌, ◌++◌, Some, None, codes, if◌then◌else◌}
use Rattle.std.specs.Fmt.{signed_decimal}
use Rattle.key_names.specs.Segment.{printed_segment}
use Rattle.key_names.specs.Key.{printed}
use Rattle.json_trees.specs.declared.item.Item.{Item}
use Rattle.json_trees.specs.declared.item.Item.TheVariants as value
use Rattle.template_reader.specs.declared.expr.Literal.{Literal}
use Rattle.template_reader.specs.declared.expr.Literal.TheVariants as literal
use Rattle.template_reader.specs.declared.walk.Walk.{Walk}
use Rattle.template_reader.specs.declared.walk.Walk.TheVariants.{Root, This, AtKey, AtIndex}

-- The text of a truth value.
abbrev pub truth_text : Bool → List ℕ
truth_text b = if b then codes "true" else codes "false"

-- The text of a scalar: `true` or `false`, plain decimal, or the text itself.
abbrev pub item_text : Item → List ℕ
item_text (value.Bool b) = truth_text b
item_text (value.Int z) = signed_decimal z
item_text (value.Text t) = t

-- The text of a literal, likewise.
abbrev pub literal_text : Literal → List ℕ
literal_text (literal.Bool b) = truth_text b
literal_text (literal.Int z) = signed_decimal z
literal_text (literal.Text t) = t

-- A path as it is written, its key printed.
abbrev pub path_text : Walk → List ℕ
path_text (Root key) = printed key
path_text (This None) = codes "this"
path_text (This (Some key)) = codes "this." ++ printed key
path_text AtKey = codes "@key"
path_text AtIndex = codes "@index"

-- The path of a child.
abbrev pub child_text : Walk → List ℕ → List ℕ
child_text path name = path_text path ++ 46 ∷ printed_segment name
