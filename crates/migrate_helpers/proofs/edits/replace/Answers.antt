use Rattle.std.proofs.Common.{sym}
use Rattle.std.proofs.lemmas.Result.{on_ok_weaker}
use Rattle.migrate_helpers.proofs.EditSteps.{changed_some, changed_none}
use Rattle.migrate_helpers.proofs.edits.replace.Goals as goal

pub returns-in_ok-replaced-in-Some : goal.returns-in_ok-replaced-in-Some
returns-in_ok-replaced-in-Some g c = on_ok_weaker c.put.result (changed_some (g.V.Entry.replaced c.args.old.now c.args.new.now) c.args.map.now c.take.new.self
    c.put.new.self c.args.key.now c.in-Some.entry _ (sym c.in-Some.ensures.value) c.take.ensures.gone c.in_ok-replaced-in-Some.ensures)
    (rw c.in_ok-copy-in-Some.ensures at c.put.ensures.ok)

pub returns-in-None : goal.returns-in-None
returns-in-None g c = changed_none (g.V.Entry.replaced c.args.old.now c.args.new.now) c.args.map.now c.take.new.self c.args.key.now
    (sym c.in-None.ensures.value) c.take.ensures.gone
