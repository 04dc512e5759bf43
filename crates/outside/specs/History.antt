-- What a disk went through, and what a crash may leave of it.
use Rattle.std.specs.Prelude.{◌≡◌, ◌⊎◌, Bool, true, Option, Some, None}
use Rattle.outside.specs.Names.{Names}
use Rattle.outside.specs.Tree.{Node, file, link, Tree, node_at, set_node}

-- One change of a disk.
pub data Change : Type 0 where
  -- The path has this node now, and a crash leaves it or what was there.
  replaced : Names → Option Node → Change
  -- The path has this node now, and a crash may leave any bytes there, or nothing.
  scribbled : Names → Option Node → Change
  -- What is there is on the disk.
  synced : Change

-- All changes of a disk, the newest first, over a tree that is on the disk.
pub data History : Type 0 where
  begun : Tree → History
  next : Change → History → History

-- The tree after a change.
abbrev pub changed : Change → Tree → Tree
changed (replaced path node) tree = set_node tree path node
changed (scribbled path node) tree = set_node tree path node
changed synced tree = tree

-- The tree as it reads.
abbrev pub tree_of : History → Tree
tree_of (begun tree) = tree
tree_of (next change history) = changed change (tree_of history)

-- Some file is there, or nothing.
abbrev pub IsFileOrNone : Option Node → Type 0
IsFileOrNone None = Unit {0}
IsFileOrNone (Some (file bytes)) = Unit {0}
IsFileOrNone (Some (link text)) = ⊥

-- What a crash now may leave at a path.
abbrev pub MayLeave : History → Names → Option Node → Type 0
MayLeave (begun tree) path node = node ≡ node_at tree path
MayLeave (next (replaced at now) history) path node = MayLeave history path node ⊎ ((path ≡ at) × (node ≡ now))
MayLeave (next (scribbled at now) history) path node = MayLeave history path node ⊎ ((path ≡ at) × (IsFileOrNone node ⊎ (node ≡ now)))
MayLeave (next synced history) path node = node ≡ node_at (tree_of history) path

-- A crash now may leave this tree: each path has what it may have, whatever the others have.
abbrev pub IsCrashState : History → Tree → Type 0
IsCrashState history crashed = (path : Names) → MayLeave history path (node_at crashed path)

-- Each tree that a crash now may leave has P.
abbrev pub EachCrashState : (Tree → Type 0) → History → Type 0
EachCrashState P history = (crashed : Tree) → IsCrashState history crashed → P crashed

-- A crash leaves at the path what is there.
abbrev pub IsSettledAt : History → Names → Type 0
IsSettledAt history path = (node : Option Node) → MayLeave history path node → node ≡ node_at (tree_of history) path

-- A crash leaves the tree as it reads.
abbrev pub IsSettled : History → Type 0
IsSettled history = (path : Names) → IsSettledAt history path

-- A crash leaves the paths that pass as they are.
pub record IsSettledOn (part : Names → Bool) (history : History) : Type 0 where
  pub at : (path : Names) → part path ≡ true → IsSettledAt history path
