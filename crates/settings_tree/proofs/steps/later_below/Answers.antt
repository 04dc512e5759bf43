use Rattle.std.proofs.Common.{sym, ◌∙◌}
use Rattle.settings_tree.proofs.Below.{later_none}
use Rattle.settings_tree.proofs.steps.later_below.Goals as goal

pub returns-else-is_prefix-clause-none : goal.returns-else-is_prefix-clause-none
returns-else-is_prefix-clause-none g c = later_none c.args.map.now c.args.prefix.now c.in-Some.key.now c.in-Some.value.now c.args.after.now c.requires
    c.in-Some.ensures.least (sym c.is_prefix.ensures ∙ c.if-is_prefix.false)
