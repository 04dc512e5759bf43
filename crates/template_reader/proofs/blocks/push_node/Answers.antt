use Rattle.std.proofs.Common.{ap, ◌∙◌}
use Rattle.template_reader.specs.Forest.{tree_of}
use Rattle.template_reader.proofs.Trees.{tree-push}
use Rattle.template_reader.proofs.blocks.push_node.Goals as goal

pub returns : goal.returns
returns c = ap tree_of c.in_ok-push.ensures.items ∙ tree-push c.args.nodes.now.items c.args.last
