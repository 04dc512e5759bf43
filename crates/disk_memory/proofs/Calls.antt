-- What the calls of a disk in memory do to its history.
use Rattle.std.proofs.Common.{◌≡◌, ◌∙◌, inl, inr, Err, List, ℕ, Option, Some, refl, ap}
use Rattle.outside.specs.Names.{Names}
use Rattle.outside.specs.Tree.{Node, node_at}
use Rattle.outside.specs.History.{History, next, scribbled, tree_of}
use Rattle.outside.specs.DiskCalls.{Writes}
use Rattle.outside.specs.Told.{Moves}
use Rattle.disk_memory.specs.Crash.{MayTear}

-- a write that failed has left what was there
pub torn_write : {E : Type 0} (path : Names) (bytes : List ℕ) (e : E) (old new : History) → MayTear path old new
    → Moves (Some old) (Some new) (Writes {E = E} path bytes (Err e))
torn_write path bytes e old new tears = record {
  told = elim tears.torn [
    | inl same ↦ inl same
    | inr torn ↦ inr (node_at (tree_of old) path, inr refl, torn)
  ];
}

-- what is there was put once more, in place
pub may_tear-put : (path : Names) (old new : History) (node : Option Node) → node ≡ node_at (tree_of old) path → new ≡ next (scribbled path node) old
    → MayTear path old new
may_tear-put path old new copy is put = record { torn = inr (put ∙ ap (λ n. next (scribbled path n) old) is) }

-- nothing was noted
pub may_tear-same : (path : Names) (old new : History) → new ≡ old → MayTear path old new
may_tear-same path old new same = record { torn = inl same }

pub ruleset tears = (may_tear-put, may_tear-same)
