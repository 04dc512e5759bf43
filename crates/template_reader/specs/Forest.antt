-- Nodes, seen as a tree.
use Rattle.std.specs.Prelude.{List, map}
use Rattle.template_reader.specs.Tree.{Tree, tree, Branch, text, print, block, test, each}
use Rattle.template_reader.specs.declared.node.Node.{Node, fold-Node}
use Rattle.template_reader.specs.declared.node.Node.TheOpen.{Node-F, Nodes-F}
use Rattle.template_reader.specs.declared.node.Nodes.{Nodes, fold-Nodes}

-- A node whose parts are seen as trees.
abbrev pub branch_step : Node-F Branch Tree → Branch
branch_step (Node-F.Text s) = text s
branch_step (Node-F.Print e) = print e
branch_step (Node-F.Test u w first other) = block (test u w) first other
branch_step (Node-F.Each w first other) = block (each w) first other

-- Nodes of which each is seen.
abbrev pub tree_step : Nodes-F Branch Tree → Tree
tree_step ns = tree ns.nodes.items

-- A node, seen as a node of a tree.
abbrev pub branch_of : Node → Branch
branch_of = fold-Node Branch Tree branch_step tree_step

-- Nodes, seen as a tree.
abbrev pub tree_in : Nodes → Tree
tree_in = fold-Nodes Branch Tree branch_step tree_step

-- A list of nodes, seen as a tree.
abbrev pub tree_of : List Node → Tree
tree_of ns = tree (map branch_of ns)
