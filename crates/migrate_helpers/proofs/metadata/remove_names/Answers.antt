use Rattle.std.proofs.Common.{◌∙◌}
use Rattle.migrate_helpers.proofs.Names.{names_more, names_all}
use Rattle.migrate_helpers.proofs.metadata.remove_names.Goals as goal

pub loop-name-preserved : goal.loop-name-preserved
loop-name-preserved c = names_more c.args.content.now c.loop-name.content c.take_meta.new.self c.args.key.now c.args.names.now c.loop-name.name-index
    c.name-item.result c.as_bytes.result.now c.loop-name.invariant c.loop-name-test.true c.name-item.is c.take_meta.ensures.gone
    (c.as_bytes.ensures.value ∙ c.as_str.ensures)

pub returns : goal.returns
returns c = names_all c.args.content.now c.loop-name.content c.args.key.now c.args.names.now c.loop-name.name-index c.loop-name.invariant c.loop-name-test.false
