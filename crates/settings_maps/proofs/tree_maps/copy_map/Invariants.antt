use Rattle.std.proofs.Common.{◌≡◌, ◌++◌}
use Rattle.settings_maps.proofs.tree_maps.copy_map.Given as goal

abbrev pub invariant-loop-key : goal.invariant-loop-key
invariant-loop-key g l = l.copies.entries ++ l.key-iterator ≡ l.map.entries
