use Rattle.std.proofs.Common.{sym, ◌∙◌, ap, subst}
use Rattle.pending_tx.specs.Transactions.{removals}
use Rattle.pending_tx.proofs.Takings.{ForgetsTo, forget_made}
use Rattle.pending_tx.proofs.forgetting.forget.Goals as goal

made : (c : goal.In_ok-overlaid) → ForgetsTo c.args.held.now c.args.keys.now c.in_ok-overlaid.overlaid.entries.items
made c = forget_made c.args.held.now c.args.keys.now c.deref.result.now c.in_ok-ended.ended.items c.in_ok-overlaid.overlaid.entries.items
    (c.deref.ensures.value ∙ c.in_ok-pairs.ensures ∙ ap removals c.as_slice.ensures.items) c.in_ok-ended.ensures
    c.in_ok-overlaid.ensures.valid c.in_ok-overlaid.ensures.added

pub of-requires-clause-once : goal.of-requires-clause-once
of-requires-clause-once c = (made c).once

pub of-requires-clause-names : goal.of-requires-clause-names
of-requires-clause-names c = (made c).bare

kept : (c : goal.After-drop-pairs-2) → ForgetsTo c.args.held.now c.args.keys.now c.of.result
kept c = subst (ForgetsTo c.args.held.now c.args.keys.now) (sym c.of.ensures)
    (forget_made c.args.held.now c.args.keys.now c.deref.result.now c.in_ok-ended.ended.items c.in_ok-overlaid.overlaid.entries.items
    (c.deref.ensures.value ∙ c.in_ok-pairs.ensures ∙ ap removals c.as_slice.ensures.items) c.in_ok-ended.ensures
    c.in_ok-overlaid.ensures.valid c.in_ok-overlaid.ensures.added)

pub returns-clause-laid : goal.returns-clause-laid
returns-clause-laid c = (kept c).gives

pub returns-clause-rule : goal.returns-clause-rule
returns-clause-rule c = (kept c).rule

pub returns-clause-weak : goal.returns-clause-weak
returns-clause-weak c = (kept c).weak

pub returns-clause-told : goal.returns-clause-told
returns-clause-told c = (kept c).told

pub returns-clause-changes : goal.returns-clause-changes
returns-clause-changes c = (kept c).changes
