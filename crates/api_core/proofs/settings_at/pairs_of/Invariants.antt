use Rattle.std.proofs.Common.{◌≡◌, ◌++◌}
use Rattle.std.specs.FinMap.{entries}
use Rattle.api_core.proofs.settings_at.pairs_of.Given as goal

-- the values that are left are to be added
abbrev pub invariant-loop-key : goal.invariant-loop-key
invariant-loop-key l = l.pairs.items ++ l.key-iterator ≡ entries l.map
