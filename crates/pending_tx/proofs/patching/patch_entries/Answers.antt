use Rattle.std.proofs.Common.{◌∙◌, ap, map, filter}
use Rattle.std.specs.FinMap.{entries}
use Rattle.settings_tree.proofs.Walks.{listed_all}
use Rattle.settings_tree.specs.declared.entry.Entry.TheVariants.{PendSet}
use Rattle.pending_tx.specs.Entries.{is_new}
use Rattle.pending_tx.proofs.Walked.{begun, added_more}
use Rattle.pending_tx.proofs.patching.patch_entries.Goals as goal

pub loop-key-init : goal.loop-key-init
loop-key-init c = begun _ c.new-entries.result.items _ c.new-entries.ensures.items
    (ap (λ l. map (λ e. PendSet c.args.tx.now e.0 e.1) (filter (λ e. is_new c.args.held.now c.args.tx.now e.0 e.1) l))
    (c.into_iter-key-iterator.ensures.into_iter_gives ∙ c.iter-key-items.ensures ∙ ap entries c.in_ok-last.ensures))

pub loop-key-preserved : goal.loop-key-preserved
loop-key-preserved c = added_more (λ e. is_new c.args.held.now c.args.tx.now e.0 e.1) (λ e. PendSet c.args.tx.now e.0 e.1) _ c.loop-key.entries.items _ _
    c.next.new.self (c.in-Some.key.now, c.in-Some.value.now) c.loop-key.invariant c.in-Some.ensures.steps c.in_ok-set_pending.ensures

pub returns : goal.returns
returns c = listed_all _ c.loop-key.entries.items _ c.loop-key.invariant
    (ap (λ l. map (λ e. PendSet c.args.tx.now e.0 e.1) (filter (λ e. is_new c.args.held.now c.args.tx.now e.0 e.1) l)) c.in-None.ensures.steps.0)
