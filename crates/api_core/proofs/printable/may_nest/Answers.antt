use Rattle.std.proofs.Common.{List, ◌∙◌, sym, ap, subst, length}
use Rattle.std.specs.Prelude.{nat_le}
use Rattle.std.specs.List.{list_any}
use Rattle.json_trees.specs.declared.pending.Pending.{Pending}
use Rattle.json_trees.specs.declared.scalar.Scalar.{Scalar}
use Rattle.machine_answers.specs.Replies.{MayNest}
use Rattle.settings_machine.specs.World.{Key}
use Rattle.api_core.specs.Prints.{CanNest}
use Rattle.api_core.proofs.Trees.{make_tree, not_true}
use Rattle.api_core.proofs.printable.may_nest.Goals as goal

pub returns-in-Values : goal.returns-in-Values
returns-in-Values c = λ is can. subst MayNest (sym c.in-Values.is)
    (make_tree c.in-Values.skip c.in-Values.pairs.items
    (ap (λ (l : List (Key × Scalar)). list_any (λ e. nat_le (length e.0) c.in-Values.skip) l) (sym c.as_slice.ensures.value)
    ∙ sym c.has_short_value.ensures ∙ not_true c.has_short_value.result is)
    (subst CanNest c.in-Values.is can))

pub returns-in-Pairs : goal.returns-in-Pairs
returns-in-Pairs c = λ is can. subst MayNest (sym c.in-Pairs.is)
    (make_tree 1 c.in-Pairs.pairs.items
    (ap (λ (l : List (Key × Pending)). list_any (λ e. nat_le (length e.0) 1) l) (sym c.as_slice-in-Pairs.ensures.value)
    ∙ sym c.has_short_pending.ensures ∙ not_true c.has_short_pending.result is)
    (subst CanNest c.in-Pairs.is can))
