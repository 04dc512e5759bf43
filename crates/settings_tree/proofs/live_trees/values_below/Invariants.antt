use Rattle.std.proofs.Common.{length}
use Rattle.std.specs.Option.{option_copied}
use Rattle.settings_tree.specs.Walks.{entries_past}
use Rattle.settings_tree.proofs.Walked.{IsWalked}
use Rattle.settings_tree.proofs.live_trees.values_below.Given as goal

abbrev pub invariant-loop-key : goal.invariant-loop-key
invariant-loop-key l = IsWalked l.live.values l.keys l.pairs.items (option_copied l.after)

abbrev pub decreases-loop-key : goal.decreases-loop-key
decreases-loop-key l = length (entries_past l.live.values (option_copied l.after))
