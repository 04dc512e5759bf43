use Rattle.migrate_helpers.specs.Entries.{moved}
use Rattle.migrate_helpers.proofs.EditSteps.{folded_more, folded_all}
use Rattle.migrate_helpers.proofs.edits.rename.Goals as goal

pub loop-from-preserved : goal.loop-from-preserved
loop-from-preserved g c = folded_more (moved g.V.Entry.landed) c.args.map.now c.loop-from.map c.move_entry.new.map c.args.pairs.now c.loop-from.from-index
    c.loop-from-item.result c.loop-from.invariant c.loop-from-test.true c.loop-from-item.is c.in_ok-move_entry.ensures

pub returns : goal.returns
returns g c = folded_all (moved g.V.Entry.landed) c.args.map.now c.loop-from.map c.args.pairs.now c.loop-from.from-index c.loop-from.invariant
    c.loop-from-test.false
