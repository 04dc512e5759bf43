use Rattle.template_eval.proofs.nodes.node.Goals as goal

pub returns-in-Leaf-clause-follows : goal.returns-in-Leaf-clause-follows
returns-in-Leaf-clause-follows c = c.scalar_node.ensures.follows c.args.content.now

pub returns-in-Item-clause-follows : goal.returns-in-Item-clause-follows
returns-in-Item-clause-follows c = c.item_node.ensures.follows c.args.content.now
