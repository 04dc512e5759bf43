use Rattle.std.proofs.Common.{take}
use Rattle.std.specs.List.{All}
use Rattle.settings_tree.specs.Below.{HasBelow}
use Rattle.settings_tree.proofs.live_trees.first_without.Given as goal

abbrev pub invariant-loop-key : goal.invariant-loop-key
invariant-loop-key l = All (HasBelow l.live.values) (take l.key-index l.keys)
