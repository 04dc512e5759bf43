use Rattle.std.proofs.Common.{◌+◌, length, drop, Some}
use Rattle.template_reader.specs.Forest.{tree_of, tree_in, branch_of}
use Rattle.template_eval.specs.Place.{Here}
use Rattle.template_eval.specs.Render.{for_each}
use Rattle.template_eval.specs.Lies.{size, size_one}
use Rattle.template_eval.specs.Kept.{Follows}
use Rattle.template_eval.specs.Steps.{Going}
use Rattle.template_eval.specs.Views.{places_of, seen, rendering}
use Rattle.template_eval.proofs.Trees.{Left}
use Rattle.template_eval.proofs.rendering.+render.Given as goal

abbrev pub decreases-push_nodes : goal.decreases-push_nodes
decreases-push_nodes l = size (tree_of l.nodes.now)

abbrev pub decreases-push_node : goal.decreases-push_node
decreases-push_node l = size_one (branch_of l.node.now) + 1

abbrev pub decreases-push_each : goal.decreases-push_each
decreases-push_each l = size (tree_in l.first.now) + size (tree_in l.other.now) + 4

abbrev pub decreases-push_places : goal.decreases-push_places
decreases-push_places l = size (tree_in l.first.now) + size (tree_in l.other.now) + 3

abbrev pub decreases-push_firsts : goal.decreases-push_firsts
decreases-push_firsts l = size (tree_in l.first.now) + 2

abbrev pub decreases-push_first : goal.decreases-push_first
decreases-push_first l = size (tree_in l.first.now) + 1

abbrev pub invariant-push_nodes-loop-node : goal.invariant-push_nodes-loop-node
invariant-push_nodes-loop-node l = record {
  so_far : Going (rendering l.inputs (tree_of l.nodes) (seen l.here)) (rendering l.inputs (tree_of (drop l.node-index l.nodes)) (seen l.here))
      l.initial.out.items l.out.items;
  left : Left l.inputs.source.now l.nodes l.node-index;
}

abbrev pub invariant-push_firsts-loop-split : goal.invariant-push_firsts-loop-split
invariant-push_firsts-loop-split l =
    let once : Here → _ = λ h. rendering l.inputs (tree_in l.first) (Some h) in
    record {
      so_far : Going (for_each once 0 (places_of l.inputs.content.now l.fn.places)) (for_each once l.index (places_of l.inputs.content.now l.rest))
          l.initial.out.items l.out.items;
      follows : Follows l.inputs.content.now l.rest;
    }

abbrev pub decreases-push_firsts-loop-split : goal.decreases-push_firsts-loop-split
decreases-push_firsts-loop-split l = length (places_of l.inputs.content.now l.rest)
