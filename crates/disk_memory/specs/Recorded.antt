-- The history of a disk in memory, from what it keeps.
use Rattle.std.specs.Prelude.{◌≡◌, List, [], ◌∷◌, Bool, ◌||◌, Option, Some, None, option_map, if◌then◌else◌}
use Rattle.std.specs.Ordering.{eq_by_cmp}
use Rattle.std.specs.FinMap as map
use Rattle.std.specs.BTreeMap.{BTreeMap, get}
use Rattle.outside.specs.Names.{Names, path_cmp}
use Rattle.outside.specs.Tree as tree
use Rattle.outside.specs.History.{History, begun, next, tree_of}
use Rattle.disk_memory.specs.Nodes.{node_of, change_of, tree_in}
use Rattle.disk_memory.specs.Crash.{synced_tree, touched, left_of, IsPicked}
use Rattle.disk_memory.specs.declared.pick.Pick.{Pick}
use Rattle.disk_memory.specs.declared.node.Node.{Node}
use Rattle.disk_memory.specs.declared.change.Change.{Change}
use Rattle.disk_memory.specs.declared.change.Touch.{Touch}

-- The history with these changes more, the first one first.
abbrev pub after_all : History → List Change → History
after_all history [] = history
after_all history (change ∷ changes) = after_all (next (change_of change) history) changes

-- The history that began over these nodes and went through these changes, the first one first.
abbrev pub recorded : BTreeMap Names Node → List Change → History
recorded began changes = after_all (begun (tree_in began)) changes

-- The map has at each path what f is of.
abbrev pub Mirrors : {A B : Type 0} → (A → B) → map.FinMap path_cmp B → BTreeMap Names A → Type 0
Mirrors f told kept = (path : Names) → option_map f (get path_cmp kept path) ≡ map.get told path

-- The second map has at each path what the first has.
abbrev pub IsCopy : {A : Type 0} → BTreeMap Names A → BTreeMap Names A → Type 0
IsCopy nodes copy = (path : Names) → get path_cmp copy path ≡ get path_cmp nodes path

-- The nodes are those of the tree, and the touches those of the paths that were touched since the last sync.
pub record IsKept (history : History) (nodes : BTreeMap Names Node) (touches : BTreeMap Names Touch) : Type 0 where
  pub node_at : Mirrors node_of (tree_of history) nodes
  pub touch_at : Mirrors (λ touch. touch.in_place) (touched history) touches
  pub before : (path : Names) (touch : Touch) → get path_cmp touches path ≡ Some touch → option_map node_of touch.before ≡ tree.node_at (synced_tree history)
      path

-- What was kept of a history is kept of it with these changes more.
pub record StaysKept (changes : List Change) (nodes later_nodes : BTreeMap Names Node) (touches later_touches : BTreeMap Names Touch) : Type 0 where
  pub stays : (history : History) → IsKept history nodes touches → IsKept (after_all history changes) later_nodes later_touches

-- Nodes that were those of the tree are so once more, with the changes.
pub record StaysAgreed (changes later : List Change) (nodes later_nodes : BTreeMap Names Node) : Type 0 where
  pub stays : (history : History) → Mirrors node_of (tree_of (after_all history changes)) nodes
      → Mirrors node_of (tree_of (after_all history later)) later_nodes

-- The second map has the value at the path, or none, and elsewhere what the first has.
pub record IsUpdated {A : Type 0} (old new : BTreeMap Names A) (path : Names) (value : Option A) : Type 0 where
  pub at : (q : Names) → get path_cmp new q ≡ (if eq_by_cmp path_cmp path q then value else get path_cmp old q)

-- The path is touched once more; the node at the last sync is the one that was there at the first touch.
abbrev pub touched_again : Option Touch → Option Node → Bool → Touch
touched_again None stood in_place = record { before = stood; in_place = in_place }
touched_again (Some touch) stood in_place = record { before = touch.before; in_place = touch.in_place || in_place }

-- The path has what the pick leaves of it, and the others are as they were.
pub record LaysPick (path : Names) (touch : Touch) (pick : Pick) (nodes later : BTreeMap Names Node) : Type 0 where
  pub at : (q : Names) → option_map node_of (get path_cmp later q) ≡ (if eq_by_cmp path_cmp path q then left_of pick (option_map node_of touch.before)
      touch.in_place (option_map node_of (get path_cmp nodes path)) else option_map node_of (get path_cmp nodes q))

-- Nodes that were those of the tree are those of the crash state that the picks name.
pub record LaysPicks (picks : List Pick) (touches : BTreeMap Names Touch) (nodes later : BTreeMap Names Node) : Type 0 where
  pub picked : (history : History) → IsKept history nodes touches → IsPicked history picks (tree_in later)
