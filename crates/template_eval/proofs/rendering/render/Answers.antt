use Rattle.std.proofs.Common.{length, subst, sym}
use Rattle.template_reader.specs.Tree.{Tree}
use Rattle.template_reader.specs.Forest.{tree_in}
use Rattle.template_eval.specs.Lies.{Lies}
use Rattle.template_eval.proofs.Trees.{lies_read}
use Rattle.template_eval.proofs.rendering.render.Goals as goal

pub push_nodes-requires-clause-lies : goal.push_nodes-requires-clause-lies
push_nodes-requires-clause-lies c =
    let P : Tree → Type 0 = λ t. Lies (length c.args.source.now) t in
    subst P (sym c.as_slice.ensures) (lies_read (length c.args.source.now) (tree_in c.args.template.now.nodes) c.requires)
