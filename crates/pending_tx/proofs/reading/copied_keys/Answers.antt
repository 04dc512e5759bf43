use Rattle.std.proofs.Common.{rules, ◌∙◌, ap, map}
use Rattle.settings_tree.proofs.Rising.{keys_rise}
use Rattle.settings_tree.proofs.Walks.{listed_more, listed_all}
use Rattle.pending_tx.proofs.reading.copied_keys.Goals as goal

pub loop-key-preserved : goal.loop-key-preserved
loop-key-preserved c = listed_more _ c.loop-key.copies.items _ _ (map (λ e. e.0) c.next.new.self) _ c.loop-key.invariant
    (ap (map (λ e. e.0)) c.in-Some.ensures.steps) (search rules)

pub of-requires : goal.of-requires
of-requires c = keys_rise c.args.values.now c.loop-key.copies.items
    (listed_all _ c.loop-key.copies.items _ c.loop-key.invariant (ap (map (λ e. e.0)) c.in-None.ensures.steps.0))

pub returns : goal.returns
returns c = c.of.ensures ∙ listed_all _ c.loop-key.copies.items _ c.loop-key.invariant (ap (map (λ e. e.0)) c.in-None.ensures.steps.0)
