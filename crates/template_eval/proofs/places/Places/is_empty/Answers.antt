use Rattle.std.proofs.Common.{ap, sym, ◌∙◌, length}
use Rattle.std.specs.Prelude.{◌==◌}
use Rattle.template_eval.specs.Views.{places_of}
use Rattle.template_eval.proofs.ChildSteps.{no_children}
use Rattle.template_eval.proofs.places.Places.is_empty.Goals as goal

pub returns-in-Children : goal.returns-in-Children
returns-in-Children c =
    let here = c.in-Children.children in
    no_children c.args.content.now.values here.parent.now here.after.now c.next_child.result c.is_none.result c.is_none.ensures c.next_child.ensures.next
    c.next_child.ensures.none
    ∙ ap (λ s. length (places_of c.args.content.now s) == 0) (sym c.in-Children.is)
