use Rattle.std.proofs.Common.{arith}
use Rattle.migrate_helpers.specs.Entries.{renamed}
use Rattle.migrate_helpers.specs.Step.{swapped_back}
use Rattle.migrate_helpers.proofs.EditSteps.{back_next, back_end}
use Rattle.migrate_helpers.proofs.edits.rename_back.Goals as goal

pub loop-from-preserved : goal.loop-from-preserved
loop-from-preserved g c = back_next g.V.Entry.landed c.loop-from.map c.move_entry.new.map
    (renamed g.V.Entry.landed c.args.map.now (swapped_back c.args.pairs.now)) c.loop-from.rest.now c.in-Some.before.now c.in-Some.field-0-0.now
    c.in-Some.ensures.cases.0 c.loop-from.invariant c.in_ok-move_entry.ensures

pub loop-from-smaller : goal.loop-from-smaller
loop-from-smaller g c = let less = c.in-Some.ensures.cases.1 in omega (arith, less)

pub returns : goal.returns
returns g c = back_end g.V.Entry.landed c.loop-from.map (renamed g.V.Entry.landed c.args.map.now (swapped_back c.args.pairs.now)) c.loop-from.rest.now
    c.in_default.ensures.cases c.loop-from.invariant
