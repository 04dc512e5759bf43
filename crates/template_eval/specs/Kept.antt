-- The values that places keep, so that they are not looked up again: for private clauses.
use Rattle.std.specs.Prelude.{◌≡◌, false, List, Option, Some, None}
use Rattle.std.specs.Borrow.{Bor}
use Rattle.std.specs.FinMap.{get}
use Rattle.key_names.specs.Key.{is_prefix}
use Rattle.json_trees.specs.declared.scalar.Scalar.{Scalar}
use Rattle.settings_tree.specs.Content.{Contents}
use Rattle.settings_tree.specs.Walks.{entries_past}
use Rattle.template_eval.specs.Place.{Path}
use Rattle.template_eval.specs.Node.{os_path}
use Rattle.template_eval.specs.declared.place.Place.{Place}
use Rattle.template_eval.specs.declared.place.Place.TheVariants.{Nowhere, At, Made, Leaf, System, Item, Index, Name}
use Rattle.template_eval.specs.declared.place.Here.{Here}
use Rattle.template_eval.specs.declared.places.Places.{Places}
use Rattle.template_eval.specs.declared.places.Places.TheVariants as places
use Rattle.template_eval.specs.declared.node.Node.{Node}
use Rattle.template_eval.specs.declared.node.Node.TheVariants as nodes

-- The scalar is the value at the path, which doesn't begin with `os`.
pub record IsLeaf (content : Contents) (path : Path) (scalar : Scalar) : Type 0 where
  pub outside : is_prefix os_path path ≡ false
  pub stands : get content.values path ≡ Some scalar

-- A value that a place keeps is the one at its path.
abbrev pub Keeps : Contents → Place → Type 0
Keeps content Nowhere = Unit {0}
Keeps content (At key) = Unit {0}
Keeps content (Made key) = Unit {0}
Keeps content (Leaf key scalar) = IsLeaf content key.now scalar.now
Keeps content (System name) = Unit {0}
Keeps content (Item i) = Unit {0}
Keeps content (Index n) = Unit {0}
Keeps content (Name name) = Unit {0}

-- The same of the item or the child of the innermost each, if there is one.
abbrev pub KeepsHere : Contents → Option (Bor Here) → Type 0
KeepsHere content None = Unit {0}
KeepsHere content (Some here) = Keeps content here.now.this

-- The entries ahead, where they are kept, are those past the key.
abbrev pub IsAhead : Contents → Path → Option (List (Path × Scalar)) → Type 0
IsAhead content after None = Unit {0}
IsAhead content after (Some ahead) = ahead ≡ entries_past content.values (Some after)

-- What children keep ahead is past the key that they are after.
abbrev pub Follows : Contents → Places → Type 0
Follows content (places.Items is) = Unit {0}
Follows content (places.System names) = Unit {0}
Follows content (places.Children c) = IsAhead content c.after.now c.ahead

-- The same of what is at a place.
abbrev pub NodeFollows : Contents → Node → Type 0
NodeFollows content nodes.Missing = Unit {0}
NodeFollows content (nodes.Atom a) = Unit {0}
NodeFollows content (nodes.Items is) = Unit {0}
NodeFollows content (nodes.Children places) = Follows content places
