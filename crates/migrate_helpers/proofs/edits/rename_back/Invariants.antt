use Rattle.std.proofs.Common.{◌≡◌, length}
use Rattle.migrate_helpers.specs.Entries.{renamed}
use Rattle.migrate_helpers.specs.Step.{swapped_back}
use Rattle.migrate_helpers.proofs.edits.rename_back.Given as goal

abbrev pub invariant-loop-from : goal.invariant-loop-from
invariant-loop-from g l = renamed g.V.Entry.landed l.map (swapped_back l.rest) ≡ renamed g.V.Entry.landed l.fn.map (swapped_back l.pairs)

abbrev pub decreases-loop-from : goal.decreases-loop-from
decreases-loop-from g l = length l.rest
