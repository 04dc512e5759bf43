use Rattle.std.proofs.Common.{◌≡◌, ◌+◌, ◌++◌, length}
use Rattle.settings_maps.specs.KeyList.{joined}
use Rattle.settings_maps.proofs.key_sets.push_joined.Given as goal

abbrev pub invariant-loop-least : goal.invariant-loop-least
invariant-loop-least l = l.all.items ++ joined l.one l.two ≡ l.fn.all.items ++ joined l.fn.one l.fn.two

abbrev pub decreases-loop-least : goal.decreases-loop-least
decreases-loop-least l = length l.one + length l.two
