-- Which crash state of a disk the picks of a crash name.
use Rattle.std.specs.Prelude.{◌≡◌, ◌⊎◌, ℕ, List, Bool, true, false, Option, Some, None, unwrap_or, slice_get, if◌then◌else◌}
use Rattle.std.specs.FinMap.{FinMap, empty, get, insert, keys}
use Rattle.outside.specs.Names.{Names, path_cmp}
use Rattle.outside.specs.Tree.{Node, file, Tree, node_at}
use Rattle.outside.specs.History.{History, begun, next, replaced, scribbled, synced, tree_of}
use Rattle.disk_memory.specs.declared.pick.Pick.{Pick}
use Rattle.disk_memory.specs.declared.pick.Pick.TheVariants.{Old, New, Gone, Torn}

-- The tree at the last sync.
abbrev pub synced_tree : History → Tree
synced_tree (begun tree) = tree
synced_tree (next (replaced path now) history) = synced_tree history
synced_tree (next (scribbled path now) history) = synced_tree history
synced_tree (next synced history) = tree_of history

-- The paths that were touched since the last sync, each with whether `write` touched it.
abbrev pub touched : History → FinMap path_cmp Bool
touched (begun tree) = empty
touched (next (replaced path now) history) = insert (touched history) path (unwrap_or (get (touched history) path) false)
touched (next (scribbled path now) history) = insert (touched history) path true
touched (next synced history) = empty

-- The unsettled paths, rising.
abbrev pub unsettled : History → List Names
unsettled history = keys (touched history)

-- Whether `write` touched the path since the last sync.
abbrev pub is_torn : History → Names → Bool
is_torn history path = unwrap_or (get (touched history) path) false

-- What a pick leaves of a path: what it had at the last sync, what it has now, or, where `write` touched it, nothing or some bytes.
abbrev pub left_of : Pick → Option Node → Bool → Option Node → Option Node
left_of Old before torn now = before
left_of New before torn now = now
left_of Gone before torn now = if torn then None else before
left_of (Torn bytes) before torn now = if torn then Some (file bytes) else before

-- Each unsettled path has what its pick leaves, in the order of paths, New where picks are missing; each other path is as it was.
pub record IsPicked (history : History) (picks : List Pick) (crashed : Tree) : Type 0 where
  pub unsettled : (k : ℕ) (path : Names) → slice_get (unsettled history) k ≡ Some path → node_at crashed path ≡ left_of (unwrap_or (slice_get picks k) New)
      (node_at (synced_tree history) path) (is_torn history path) (node_at (tree_of history) path)
  pub settled : (path : Names) → get (touched history) path ≡ None → node_at crashed path ≡ node_at (tree_of history) path

-- The tree stays, and from now on a crash may tear the path; or nothing has changed.
pub record MayTear (path : Names) (old new : History) : Type 0 where
  pub torn : (new ≡ old) ⊎ (new ≡ next (scribbled path (node_at (tree_of old) path)) old)
