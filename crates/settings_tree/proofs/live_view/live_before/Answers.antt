use Rattle.std.proofs.Common.{ap, sym, ◌∙◌}
use Rattle.std.specs.Ordering.{is_lt}
use Rattle.std.specs.Option.{option_copied}
use Rattle.settings_tree.proofs.Below.{none_until, no_more_until}
use Rattle.settings_tree.proofs.live_view.live_before.Goals as goal

pub returns-else-is_lt-clause-none : goal.returns-else-is_lt-clause-none
returns-else-is_lt-clause-none c = none_until c.args.live.now.values c.args.prefix.now (option_copied c.args.after) c.args.end.now c.in-Some.key.now
    c.in-Some.value.now c.in-Some.ensures.least (ap is_lt (sym c.cmp.ensures) ∙ sym c.is_lt.ensures ∙ c.if-is_lt.false)

pub returns-in-None-clause-none : goal.returns-in-None-clause-none
returns-in-None-clause-none c = no_more_until c.args.live.now.values c.args.prefix.now (option_copied c.args.after) c.args.end.now c.in-None.ensures.none
