use Rattle.std.proofs.Common.{Err, ◌∙◌, ap, sym}
use Rattle.event_lines.proofs.Changes.{none_changed}
use Rattle.event_lines.proofs.requests.changed_by_commit.Goals as goal

pub returns-in-Err-NoPending : goal.returns-in-Err-NoPending
returns-in-Err-NoPending c =
    c.new.ensures ∙ sym (none_changed c.args.held.now c.args.tx.now (c.in-Err-NoPending.ensures.refused (ap Err c.in-Err-NoPending.field-0-is)))
