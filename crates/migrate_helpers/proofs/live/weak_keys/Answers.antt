use Rattle.std.proofs.Common.{rules, ◌∙◌}
use Rattle.migrate_helpers.proofs.Weakness.{weak_next, weak_end, weak_rises}
use Rattle.migrate_helpers.proofs.live.weak_keys.Goals as goal

pub loop-key-preserved : goal.loop-key-preserved
loop-key-preserved c = weak_next c.loop-key.key-iterator c.next.new.self c.in-Some.key.now c.in-Some.setting.now c.loop-key.keys.items _ _
    c.in-Some.ensures.steps c.loop-key.invariant c.in_ok-push_if_weak.ensures

pub of-requires : goal.of-requires
of-requires c = weak_rises c.args.settings.now c.loop-key.keys.items
    (weak_end c.loop-key.key-iterator c.loop-key.keys.items _ (search rules) c.loop-key.invariant)

pub returns : goal.returns
returns c = c.of.ensures ∙ weak_end c.loop-key.key-iterator c.loop-key.keys.items _ (search rules) c.loop-key.invariant
