use Rattle.template_eval.proofs.rendering.is_first.Goals as goal

pub node-requires : goal.node-requires
node-requires c = c.in_ok-place.ensures.kept c.args.inputs.now.content.now c.requires
