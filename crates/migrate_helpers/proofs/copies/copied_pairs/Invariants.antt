use Rattle.std.proofs.Common.{◌≡◌, take}
use Rattle.migrate_helpers.proofs.copies.copied_pairs.Given as goal

abbrev pub invariant-loop-from : goal.invariant-loop-from
invariant-loop-from l = l.copies.items ≡ take l.from-index l.pairs
