use Rattle.std.proofs.Common.{◌≡◌}
use Rattle.std.specs.FinMap.{len}
use Rattle.migrate_helpers.specs.Entries.{without_prefix}
use Rattle.migrate_helpers.proofs.edits.remove_below.Given as goal

abbrev pub invariant-loop-key : goal.invariant-loop-key
invariant-loop-key g l = without_prefix l.map l.prefix ≡ without_prefix l.fn.map l.prefix

abbrev pub decreases-loop-key : goal.decreases-loop-key
decreases-loop-key g l = len l.map
