use Rattle.std.proofs.Common.{◌≡◌, ◌≤◌, length}
use Rattle.settings_tree.specs.Rooms.{held_of, all_closed}
use Rattle.settings_tree.proofs.parts.Parts.close_all.Given as goal

abbrev pub invariant-loop-fresh : goal.invariant-loop-fresh
invariant-loop-fresh l = (length l.made.items ≤ length l.entries) × (all_closed l.made.items l.entries (held_of l.self) ≡ all_closed l.fn.made.items l.entries
    (held_of l.fn.self))

abbrev pub decreases-loop-fresh : goal.decreases-loop-fresh
decreases-loop-fresh l = length l.made.items
