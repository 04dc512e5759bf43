use Rattle.std.proofs.Common.{◌≡◌, take}
use Rattle.migrate_helpers.specs.Entries.{removed}
use Rattle.migrate_helpers.proofs.edits.remove_keys.Given as goal

abbrev pub invariant-loop-key : goal.invariant-loop-key
invariant-loop-key g l = l.map ≡ removed l.fn.map (take l.key-index l.keys)
