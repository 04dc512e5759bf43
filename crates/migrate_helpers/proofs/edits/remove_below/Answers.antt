use Rattle.migrate_helpers.specs.Entries.{without_prefix}
use Rattle.migrate_helpers.proofs.EditSteps.{without_taken, without_falls, without_end}
use Rattle.migrate_helpers.proofs.edits.remove_below.Goals as goal

pub loop-key-preserved : goal.loop-key-preserved
loop-key-preserved g c = without_taken c.loop-key.map c.take.new.self (without_prefix c.args.map.now c.args.prefix.now) c.args.prefix.now c.in-Some.key
    (rw c.in-Some.is at c.in_ok-key.ensures.begins) c.loop-key.invariant c.take.ensures.gone

pub loop-key-smaller : goal.loop-key-smaller
loop-key-smaller g c = without_falls c.loop-key.map c.take.new.self c.in-Some.key (rw c.in-Some.is at c.in_ok-key.ensures.stands) c.take.ensures.gone

pub returns : goal.returns
returns g c = without_end c.loop-key.map (without_prefix c.args.map.now c.args.prefix.now) c.args.prefix.now (rw c.in_default.is at c.in_ok-key.ensures.none)
    c.loop-key.invariant
