use Rattle.std.proofs.Common.{◌≡◌, ◌++◌}
use Rattle.std.specs.FinMap.{entries}
use Rattle.migrate_helpers.specs.Settings.{weak_keys}
use Rattle.migrate_helpers.proofs.live.weak_keys.Given as goal

abbrev pub invariant-loop-key : goal.invariant-loop-key
invariant-loop-key l = l.keys.items ++ weak_keys l.key-iterator ≡ weak_keys (entries l.settings)
