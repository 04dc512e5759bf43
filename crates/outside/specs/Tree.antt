-- What is on a disk, by paths.
use Rattle.std.specs.Prelude.{◌≡◌, ℕ, List, Bool, true, Option, Some, None, filter}
use Rattle.std.specs.FinMap.{FinMap, get, insert, remove, keys}
use Rattle.outside.specs.Names.{Names, path_cmp, is_below}

-- A node is a file with its bytes or a link with its text.
pub data Node : Type 0 where
  file : List ℕ → Node
  link : List ℕ → Node

-- A tree is the nodes of a disk by their paths.
abbrev pub Tree : Type 0
Tree = FinMap path_cmp Node

-- What is at a path.
abbrev pub node_at : Tree → Names → Option Node
node_at tree path = get tree path

-- The tree with this node at the path, or with none there.
abbrev pub set_node : Tree → Names → Option Node → Tree
set_node tree path None = remove tree path
set_node tree path (Some node) = insert tree path node

-- The bytes of the file, if it is one.
abbrev pub file_in : Option Node → Option (List ℕ)
file_in None = None
file_in (Some (file bytes)) = Some bytes
file_in (Some (link text)) = None

-- The text of the link, if it is one.
abbrev pub link_in : Option Node → Option (List ℕ)
link_in None = None
link_in (Some (file bytes)) = None
link_in (Some (link text)) = Some text

-- The paths of the nodes strictly below a path, rising.
abbrev pub paths_below : Names → Tree → List Names
paths_below path tree = filter (is_below path) (keys tree)

-- Two trees have the same at the paths that pass.
pub record AgreeOn (part : Names → Bool) (one other : Tree) : Type 0 where
  pub same : (path : Names) → part path ≡ true → node_at one path ≡ node_at other path
