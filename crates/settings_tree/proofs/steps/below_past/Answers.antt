use Rattle.std.proofs.Common.{sym, ◌∙◌}
use Rattle.std.proofs.lemmas.Option.{IfSome_then}
use Rattle.settings_tree.proofs.Below.{first_past, greater}
use Rattle.settings_tree.proofs.steps.below_past.Goals as goal

pub returns-then-is_gt-clause-least : goal.returns-then-is_gt-clause-least
returns-then-is_gt-clause-least g c = IfSome_then c.first_below.result c.first_below.ensures.least
    (λ e first. first_past c.args.map.now c.args.prefix.now e.0.now e.1.now c.args.after.now
    (sym c.cmp.ensures ∙ greater c.cmp.result (sym c.is_gt.ensures ∙ c.if-is_gt.true)) first)
