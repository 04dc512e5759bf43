use Rattle.std.proofs.Common.{sym, ◌∙◌}
use Rattle.settings_tree.proofs.Below.{first_least, first_none, none_from_prefix}
use Rattle.settings_tree.proofs.steps.first_below.Goals as goal

pub returns-then-is_prefix-clause-least : goal.returns-then-is_prefix-clause-least
returns-then-is_prefix-clause-least g c = first_least c.args.map.now c.args.prefix.now c.in-Some.key.now c.in-Some.value.now c.in-Some.ensures.least
    (sym c.is_prefix.ensures ∙ c.if-is_prefix.true)

pub returns-else-is_prefix-clause-none : goal.returns-else-is_prefix-clause-none
returns-else-is_prefix-clause-none g c = first_none c.args.map.now c.args.prefix.now c.in-Some.key.now c.in-Some.value.now c.in-Some.ensures.least
    (sym c.is_prefix.ensures ∙ c.if-is_prefix.false)

pub returns-in-None-clause-none : goal.returns-in-None-clause-none
returns-in-None-clause-none g c = none_from_prefix c.args.map.now c.args.prefix.now c.in-None.ensures.none
