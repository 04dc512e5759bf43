use Rattle.std.specs.FinMap.{remove}
use Rattle.migrate_helpers.proofs.EditSteps.{folded_more, folded_all}
use Rattle.migrate_helpers.proofs.edits.remove_keys.Goals as goal

pub loop-key-preserved : goal.loop-key-preserved
loop-key-preserved g c = folded_more remove c.args.map.now c.loop-key.map c.take.new.self c.args.keys.now c.loop-key.key-index c.key-item.result
    c.loop-key.invariant c.loop-key-test.true c.key-item.is c.take.ensures.gone

pub returns : goal.returns
returns g c = folded_all remove c.args.map.now c.loop-key.map c.args.keys.now c.loop-key.key-index c.loop-key.invariant c.loop-key-test.false
