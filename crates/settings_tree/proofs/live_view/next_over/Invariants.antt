use Rattle.std.proofs.Common.{length}
use Rattle.std.specs.Option.{option_copied}
use Rattle.settings_tree.specs.Over.{laid_over}
use Rattle.settings_tree.specs.Walks.{entries_below_past}
use Rattle.settings_tree.proofs.Over.{HasPassed}
use Rattle.settings_tree.proofs.live_view.next_over.Given as goal

abbrev pub invariant-loop-key : goal.invariant-loop-key
invariant-loop-key l = HasPassed (laid_over l.live l.over).values l.prefix (option_copied l.after) (option_copied l.last)

abbrev pub decreases-loop-key : goal.decreases-loop-key
decreases-loop-key l = length (entries_below_past l.over l.prefix (option_copied l.last))
