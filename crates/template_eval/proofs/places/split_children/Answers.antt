use Rattle.std.proofs.Common.{◌∷◌, ap, sym, ◌∙◌}
use Rattle.template_eval.specs.Place.{Place}
use Rattle.template_eval.proofs.ChildSteps.{children_past, next_child_is, no_child_is}
use Rattle.template_eval.proofs.places.split_children.Goals as goal

pub returns-in_default-clause-parts : goal.returns-in_default-clause-parts
returns-in_default-clause-parts c = no_child_is c.args.content.now.values c.args.children.parent.now c.args.children.after.now c.in_default.ensures.none

pub returns-clause-parts : goal.returns-clause-parts
returns-clause-parts c =
    let values = c.args.content.now.values in
    let parent = c.args.children.parent.now in
    let key = c.in-Some.key.now in
    next_child_is values parent c.args.children.after.now key c.in-Some.scalar.now c.in-Some.ensures.next
    ∙ ap (λ (p : Place). p ∷ children_past values parent key) (sym c.in_ok-first.ensures.leads)

pub returns-clause-kept : goal.returns-clause-kept
returns-clause-kept c = c.in_ok-first.ensures.kept c.args.content.now c.in-Some.ensures.next.stands
