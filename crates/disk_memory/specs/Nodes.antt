-- What is at a path of a disk in memory, and its changes, in the words of `outside`.
use Rattle.std.specs.Prelude.{List, map, reverse, Option, option_map, Bool, true, false}
use Rattle.std.specs.FinMap.{from_entries}
use Rattle.std.specs.BTreeMap.{BTreeMap}
use Rattle.outside.specs.Names.{Names}
use Rattle.outside.specs.Tree as outside
use Rattle.outside.specs.History.{Change, replaced, scribbled, synced}
use Rattle.disk_memory.specs.declared.node.Node.{Node}
use Rattle.disk_memory.specs.declared.node.Node.TheVariants.{File, Link}
use Rattle.disk_memory.specs.declared.change.Change as recorded
use Rattle.disk_memory.specs.declared.change.Change.TheVariants.{Put, Synced}

-- The node of a tree.
abbrev pub node_of : Node → outside.Node
node_of (File bytes) = outside.file bytes
node_of (Link text) = outside.link text

-- Nodes with their paths, as nodes of a tree.
abbrev pub nodes_of : List (Names × Node) → List (Names × outside.Node)
nodes_of entries = map (λ e. (e.0, node_of e.1)) entries

-- The tree of these nodes; of a path that is named twice the first one.
abbrev pub tree_with : List (Names × Node) → outside.Tree
tree_with entries = from_entries (nodes_of entries)

-- The tree of these nodes; of a path that is named twice the last one.
abbrev pub tree_of_last : List (Names × Node) → outside.Tree
tree_of_last entries = tree_with (reverse entries)

-- The tree of a map from paths to nodes.
abbrev pub tree_in : BTreeMap Names Node → outside.Tree
tree_in nodes = tree_with nodes.entries

-- A change at a path, in place or at once.
abbrev pub put : Bool → Names → Option outside.Node → Change
put true path node = scribbled path node
put false path node = replaced path node

-- The change of a history.
abbrev pub change_of : recorded.Change → Change
change_of (Put path node in_place) = put in_place path (option_map node_of node)
change_of Synced = synced
