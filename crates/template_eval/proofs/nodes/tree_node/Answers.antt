use Rattle.template_eval.proofs.nodes.tree_node.Goals as goal

pub returns-then-begins_with_os-clause-follows : goal.returns-then-begins_with_os-clause-follows
returns-then-begins_with_os-clause-follows c = c.os_node.ensures.follows c.args.content.now
