use Rattle.std.proofs.Common.{length, map}
use Rattle.template_eval.specs.Rendered.{joined}
use Rattle.template_eval.specs.Render.{child_pair}
use Rattle.template_eval.specs.Kept.{Follows}
use Rattle.template_eval.specs.Steps.{Going}
use Rattle.template_eval.specs.Views.{places_of}
use Rattle.template_eval.proofs.Entries.{behind}
use Rattle.template_eval.proofs.joins.push_children.Given as goal

abbrev pub invariant-loop-split : goal.invariant-loop-split
invariant-loop-split l =
    let pair = child_pair l.inputs.content.now l.inputs.os.now l.joiner l.path in
    record {
      so_far : Going (joined l.separator (map pair (places_of l.inputs.content.now l.fn.places)))
          (behind l.lead l.separator (map pair (places_of l.inputs.content.now l.rest))) l.initial.out.items l.out.items;
      follows : Follows l.inputs.content.now l.rest;
    }

abbrev pub decreases-loop-split : goal.decreases-loop-split
decreases-loop-split l = length (places_of l.inputs.content.now l.rest)
