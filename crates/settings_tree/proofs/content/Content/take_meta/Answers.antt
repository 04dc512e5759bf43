use Rattle.settings_tree.proofs.Contents.{take_meta_keeps}
use Rattle.settings_tree.proofs.content.Content.take_meta.Goals as goal

pub invariant_of-self : goal.invariant_of-self
invariant_of-self c = take_meta_keeps c.self.inside.values c.self.inside.metadata c.self.inside.weak c.args.self.now c.self.view_is c.self.invariant
    c.args.key.now c.args.name.now _ c.take.ensures.gone
