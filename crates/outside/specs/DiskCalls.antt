-- What each writing call of a disk does to its history.
use Rattle.std.specs.Prelude.{◌≡◌, ◌⊎◌, ℕ, List, Option, Some, Result, Ok, Err}
use Rattle.outside.specs.Names.{Names}
use Rattle.outside.specs.Tree.{Node, file, node_at}
use Rattle.outside.specs.History.{History, next, replaced, scribbled, synced, tree_of, IsFileOrNone}

-- The file is written in place; after an error its path may have any bytes, nothing, or what it had, and a crash may tear it.
abbrev pub Writes : {E : Type 0} → Names → List ℕ → Result Unit E → History → History → Type 0
Writes path bytes (Ok done) old new = new ≡ next (scribbled path (Some (file bytes))) old
Writes path bytes (Err e) old new = (new ≡ old)
    ⊎ ((node : Option Node) × (IsFileOrNone node ⊎ (node ≡ node_at (tree_of old) path)) × (new ≡ next (scribbled path node) old))

-- The path gets this node at once; after an error it has the old node or the new one.
abbrev pub Puts : {E : Type 0} → Names → Option Node → Result Unit E → History → History → Type 0
Puts path node (Ok done) old new = new ≡ next (replaced path node) old
Puts path node (Err e) old new = (new ≡ old) ⊎ (new ≡ next (replaced path node) old)

-- What is there is on the disk; after an error the history is as before, so that the crash states are among those from before.
abbrev pub Syncs : {E : Type 0} → Result Unit E → History → History → Type 0
Syncs (Ok done) old new = new ≡ next synced old
Syncs (Err e) old new = new ≡ old
