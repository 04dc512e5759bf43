use Rattle.std.proofs.lemmas.Result.{on_ok_weaker}
use Rattle.pending_tx.proofs.Commits.{adds_made}
use Rattle.pending_tx.proofs.committing.push_commit.Goals as goal

pub returns-clause-added : goal.returns-clause-added
returns-clause-added c = on_ok_weaker c.push_some-2.result (λ pushed. adds_made c.args.held.now c.args.ended.items
    c.in_ok-owed_entry.field-0 c.in_ok-weak_entry.field-0 c.args.keys.now c.args.changed.now c.weak.result.now c.args.changes.items
    c.args.entries.now.items c.set_live.new.entries.items c.push_all.new.entries.items
    c.push_some.new.entries.items c.push_some-2.new.entries.items
    c.weak.ensures.weak c.in_ok-owed_entry.ensures c.in_ok-weak_entry.ensures.told c.in_ok-weak_entry.ensures.exact
    c.in_ok-set_live.ensures c.in_ok-push_all.ensures c.in_ok-push_some.ensures pushed) c.push_some-2.ensures

pub returns-clause-valid : goal.returns-clause-valid
returns-clause-valid c = on_ok_weaker c.push_some-2.result (λ pushed. c.weak.ensures.valid) c.push_some-2.ensures
