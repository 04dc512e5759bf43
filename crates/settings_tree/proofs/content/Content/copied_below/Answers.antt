use Rattle.std.proofs.Common.{rules}
use Rattle.settings_tree.proofs.Ranges.{left_first, left_more, left_past}
use Rattle.settings_tree.proofs.content.Content.copied_below.Goals as goal

pub loop-key-init : goal.loop-key-init
loop-key-init c = left_first c.args.self.now.values c.args.prefix.now _ _ (search rules) (search rules)

pub loop-key-preserved : goal.loop-key-preserved
loop-key-preserved c = left_more c.args.self.now.values c.args.prefix.now c.loop-key.pairs.items _ _ c.next.new.self c.in-Some.key.now c.in-Some.value.now
    c.loop-key.invariant c.in-Some.ensures.steps (search rules) (search rules)

pub returns-then-not-is_prefix-clause-values : goal.returns-then-not-is_prefix-clause-values
returns-then-not-is_prefix-clause-values c = left_past c.args.self.now.values c.args.prefix.now c.loop-key.pairs.items _ c.next.new.self c.in-Some.key.now
    c.in-Some.value.now c.loop-key.invariant c.in-Some.ensures.steps (search rules)
