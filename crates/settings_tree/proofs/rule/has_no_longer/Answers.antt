use Rattle.std.proofs.Common.{sym, ◌∙◌}
use Rattle.std.proofs.lemmas.Bool.{not-true, not-false}
use Rattle.settings_tree.proofs.PrefixRule.{longer_some, longer_none, longer_clash}
use Rattle.settings_tree.proofs.rule.has_no_longer.Goals as goal

pub returns-in-Some-clause-fits : goal.returns-in-Some-clause-fits
returns-in-Some-clause-fits g c yes_not = longer_some c.args.map.now c.args.key.now c.in-Some.next.now c.in-Some.field-0-1.now c.in-Some.ensures.least
    (sym c.is_prefix.ensures ∙ not-true _ yes_not)

pub returns-in-Some-clause-clashes : goal.returns-in-Some-clause-clashes
returns-in-Some-clause-clashes g c no_not = longer_clash c.args.map.now c.args.key.now c.in-Some.next.now c.in-Some.field-0-1.now c.in-Some.ensures.least
    (sym c.is_prefix.ensures ∙ not-false _ no_not)

pub returns-in-None-clause-fits : goal.returns-in-None-clause-fits
returns-in-None-clause-fits g c _ = longer_none c.args.map.now c.args.key.now c.in-None.ensures.none
