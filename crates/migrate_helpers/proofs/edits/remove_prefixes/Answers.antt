use Rattle.migrate_helpers.specs.Entries.{without_prefix}
use Rattle.migrate_helpers.proofs.EditSteps.{folded_more, folded_all}
use Rattle.migrate_helpers.proofs.edits.remove_prefixes.Goals as goal

pub loop-prefix-preserved : goal.loop-prefix-preserved
loop-prefix-preserved g c = folded_more without_prefix c.args.map.now c.loop-prefix.map c.remove_below.new.map c.args.prefixes.now c.loop-prefix.prefix-index
    c.prefix-item.result c.loop-prefix.invariant c.loop-prefix-test.true c.prefix-item.is c.in_ok-remove_below.ensures

pub returns : goal.returns
returns g c = folded_all without_prefix c.args.map.now c.loop-prefix.map c.args.prefixes.now c.loop-prefix.prefix-index c.loop-prefix.invariant
    c.loop-prefix-test.false
