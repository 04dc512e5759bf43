-- How the definitions see what the program holds.
use Rattle.std.specs.Prelude.{ℕ, pos, List, map, Option, Some, None}
use Rattle.std.specs.Borrow.{Bor}
use Rattle.std.specs.Fmt.{decimal, signed_decimal}
use Rattle.json_trees.specs.declared.item.Item.TheVariants as value
use Rattle.json_trees.specs.declared.scalar.Scalar.{Scalar}
use Rattle.json_trees.specs.declared.scalar.Scalar.TheVariants as scalars
use Rattle.settings_tree.specs.Content.{Contents}
use Rattle.settings_tree.specs.Walks.{entries_past}
use Rattle.template_eval.specs.Place.{Place, Here, nowhere, in_tree, system, item, label, index_place}
use Rattle.template_eval.specs.Children.{child, name_below, names_below}
use Rattle.template_eval.specs.Node.{Node, missing, scalar, items, children}
use Rattle.template_eval.specs.Node as nodes
use Rattle.template_eval.specs.declared.node.Atom.{Atom}
use Rattle.template_eval.specs.declared.node.Atom.TheVariants as atoms
use Rattle.template_eval.specs.declared.node.Node.{Node as TheirNode}
use Rattle.template_eval.specs.declared.node.Node.TheVariants as theirs
use Rattle.template_eval.specs.Written.{truth_text, path_text}
use Rattle.template_eval.specs.Rendered.{Rendered}
use Rattle.template_eval.specs.Render.{node_at, child_pair, for_each, each_of, each_text, print_text, expr_text, render, render_one}
use Rattle.template_reader.specs.Tree.{Tree, Branch}
use Rattle.template_reader.specs.declared.expr.Expr.{Expr}
use Rattle.template_reader.specs.declared.walk.Walk.{Walk}
use Rattle.template_eval.specs.declared.inputs.Inputs.{Inputs}
use Rattle.template_eval.specs.declared.place.Place.{Place as TheirPlace}
use Rattle.template_eval.specs.declared.place.Place.TheVariants.{Nowhere, At, Made, Leaf, System, Item, Index, Name}
use Rattle.template_eval.specs.declared.place.Here.{Here as TheirHere}
use Rattle.template_eval.specs.declared.children.Children.{Children}
use Rattle.template_eval.specs.declared.places.Places.{Places}
use Rattle.template_eval.specs.declared.places.Places.TheVariants as places

-- A place.
abbrev pub place_of : TheirPlace → Place
place_of Nowhere = nowhere
place_of (At key) = in_tree key.now
place_of (Made key) = in_tree key
place_of (Leaf key kept) = in_tree key.now
place_of (System s) = system s.now
place_of (Item i) = item i.now
place_of (Index n) = index_place n
place_of (Name name) = label name.now

-- An item or a child of an each.
abbrev pub here_of : TheirHere → Here
here_of h = record { this = place_of h.this; index = h.index }

-- The item or the child of the innermost each, if there is one.
abbrev pub seen : Option (Bor TheirHere) → Option Here
seen None = None
seen (Some h) = Some (here_of h.now)

-- The children of a key that are still to come: those whose name is past that of the given key.
abbrev pub children_of : Contents → Children → List Place
children_of content c =
    map (λ e. child c.parent.now e.0) (entries_past (names_below content.values c.parent.now) (name_below c.parent.now c.after.now))

-- The places that are still to come.
abbrev pub places_of : Contents → Places → List Place
places_of content (places.Items is) = map item is.now
places_of content (places.System names) = map system names.now
places_of content (places.Children c) = children_of content c

-- A scalar, or what a child or its index is called.
abbrev pub atom_node : Atom → Node
atom_node (atoms.Bool b) = scalar (value.Bool b)
atom_node (atoms.Int z) = scalar (value.Int z)
atom_node (atoms.Text t) = scalar (value.Text t.now)
atom_node (atoms.Index n) = scalar (value.Int (pos n))
atom_node (atoms.Name name) = nodes.label name.now

-- What is at a place.
abbrev pub node_of : Contents → TheirNode → Node
node_of content theirs.Missing = missing
node_of content (theirs.Atom a) = atom_node a
node_of content (theirs.Items is) = items is.now
node_of content (theirs.Children places) = children (places_of content places)

-- The text of a scalar, or of what a child or its index is called.
abbrev pub atom_text : Atom → List ℕ
atom_text (atoms.Bool b) = truth_text b
atom_text (atoms.Int z) = signed_decimal z
atom_text (atoms.Text t) = t.now
atom_text (atoms.Index n) = decimal n
atom_text (atoms.Name name) = name.now

-- The value that such a scalar is; a name is a text.
abbrev pub atom_value : Atom → Scalar
atom_value (atoms.Bool b) = scalars.Bool b
atom_value (atoms.Int z) = scalars.Int z
atom_value (atoms.Text t) = scalars.Text t.now
atom_value (atoms.Index n) = scalars.Int (pos n)
atom_value (atoms.Name name) = scalars.Text name.now

-- The places that are still to come, with these inputs.
abbrev pub places_in : Inputs → Places → List Place
places_in i places = places_of i.content.now places

-- What is at a place, with these inputs.
abbrev pub node_in : Inputs → TheirNode → Node
node_in i n = node_of i.content.now n

-- What is where a path leads, with these inputs.
abbrev pub found : Inputs → Option Here → Walk → Node
found i here path = node_at i.content.now i.os.now here path

-- A child of `join_map`, with these inputs.
abbrev pub pair_of : Inputs → List ℕ → Walk → Place → Rendered
pair_of i joiner path p = child_pair i.content.now i.os.now joiner path p

-- What an expression prints of a node, with these inputs.
abbrev pub printing : Inputs → Expr → Node → Rendered
printing i e n = print_text i.content.now i.os.now e n

-- What an expression prints, with these inputs.
abbrev pub expression : Inputs → Option Here → Expr → Rendered
expression i here e = expr_text i.content.now i.os.now here e

-- What a tree renders to, with these inputs.
abbrev pub rendering : Inputs → Tree → Option Here → Rendered
rendering i t here = render i.content.now i.os.now i.source.now t here

-- What a node renders to, with these inputs.
abbrev pub rendering_one : Inputs → Branch → Option Here → Rendered
rendering_one i b here = render_one i.content.now i.os.now i.source.now b here

-- What an each renders to, with these inputs.
abbrev pub each_rendering : Inputs → Walk → Tree → Tree → Option Here → Rendered
each_rendering i path first other here =
    each_text (path_text path) (λ h. rendering i first (Some h)) (rendering i other here) (found i here path)

-- What an each renders to over these places, with these inputs.
abbrev pub places_rendering : Inputs → List Place → Tree → Tree → Option Here → Rendered
places_rendering i places first other here = each_of (λ h. rendering i first (Some h)) (rendering i other here) places

-- The first part of an each for each of these places, with these inputs.
abbrev pub firsts_rendering : Inputs → List Place → Tree → Rendered
firsts_rendering i places first = for_each (λ h. rendering i first (Some h)) 0 places
