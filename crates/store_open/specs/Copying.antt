-- For private clauses: nodes are copied from a disk, path by path.
use Rattle.std.specs.Prelude.{◌≡◌, List, [], ◌∷◌, ◌++◌, None, if◌then◌else◌}
use Rattle.std.specs.List.{list_any}
use Rattle.std.specs.Ordering.{eq_by_cmp}
use Rattle.outside.specs.Names.{Names, path_cmp}
use Rattle.outside.specs.Tree.{Tree, node_at}
use Rattle.disk_memory.specs.Nodes.{tree_of_last}
use Rattle.disk_memory.specs.declared.node.Node.{Node}

-- The copy has what the tree has at these paths, and nothing elsewhere.
pub record HasOnly (paths : List Names) (tree copy : Tree) : Type 0 where
  pub at : (path : Names) → node_at copy path ≡ (if list_any (eq_by_cmp path_cmp path) paths then node_at tree path else None)

-- A copy that has what the tree has at some paths gets what it has at one path more.
pub record CopiesOne (path : Names) (tree : Tree) (old new : List (Names × Node)) : Type 0 where
  pub copied : (paths : List Names) → HasOnly paths tree (tree_of_last old) → HasOnly (paths ++ path ∷ []) tree (tree_of_last new)
