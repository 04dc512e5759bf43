use Rattle.std.proofs.Common.{◌≡◌, take}
use Rattle.migrate_helpers.specs.Entries.{removed_below}
use Rattle.migrate_helpers.proofs.edits.remove_prefixes.Given as goal

abbrev pub invariant-loop-prefix : goal.invariant-loop-prefix
invariant-loop-prefix g l = l.map ≡ removed_below l.fn.map (take l.prefix-index l.prefixes)
