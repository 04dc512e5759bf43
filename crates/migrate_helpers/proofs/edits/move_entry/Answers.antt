use Rattle.std.proofs.Common.{sym}
use Rattle.migrate_helpers.proofs.EditSteps.{moved_none}
use Rattle.migrate_helpers.proofs.edits.move_entry.Goals as goal

pub returns-in-None : goal.returns-in-None
returns-in-None g c = moved_none g.V.Entry.landed c.args.map.now c.take.new.self c.args.from.now c.args.to.now (sym c.in-None.ensures.value) c.take.ensures.gone
