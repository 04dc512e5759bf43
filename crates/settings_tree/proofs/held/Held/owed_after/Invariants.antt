use Rattle.std.proofs.Common.{◌≡◌, take}
use Rattle.settings_tree.specs.Laid.{laid}
use Rattle.settings_tree.proofs.held.Held.owed_after.Given as goal

abbrev pub invariant-loop-entry : goal.invariant-loop-entry
invariant-loop-entry l = l.owed ≡ (laid l.self (take l.entry-index l.entry-items)).owed
