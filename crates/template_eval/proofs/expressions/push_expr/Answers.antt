use Rattle.template_eval.proofs.expressions.push_expr.Goals as goal

pub node-requires : goal.node-requires
node-requires c = c.in_ok-place.ensures.kept c.args.inputs.now.content.now c.requires
