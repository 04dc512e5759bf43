use Rattle.std.proofs.Common.{◌≡◌, take}
use Rattle.migrate_helpers.specs.Entries.{renamed}
use Rattle.migrate_helpers.proofs.edits.rename.Given as goal

abbrev pub invariant-loop-from : goal.invariant-loop-from
invariant-loop-from g l = l.map ≡ renamed g.V.Entry.landed l.fn.map (take l.from-index l.pairs)
