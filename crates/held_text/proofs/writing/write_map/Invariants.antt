use Rattle.std.proofs.Common.{[], ◌∷◌}
use Rattle.std.specs.FinMap.{entries}
use Rattle.json_trees.specs.Nested.{IsSound}
use Rattle.held_text.specs.HeldText.{pair_data}
use Rattle.held_text.proofs.HeldWalks.{Writing}
use Rattle.held_text.proofs.writing.write_map.Given as goal

-- The entries before this one are written.
abbrev pub invariant-loop-key : goal.invariant-loop-key
invariant-loop-key g l =
    Writing (λ e. e ∷ []) (pair_data g.L.Leaf.written) (IsSound g.L.Leaf.leaf g.L.Leaf.written) (entries l.map) l.key-iterator l.initial.writer l.writer
