use Rattle.settings_tree.proofs.Contents.{take_keeps}
use Rattle.settings_tree.proofs.content.Content.take.Goals as goal

pub invariant_of-self : goal.invariant_of-self
invariant_of-self c = take_keeps c.self.inside.values c.self.inside.metadata c.self.inside.weak c.args.self.now c.self.view_is c.self.invariant c.args.key.now _
    _ c.take.ensures.gone c.remove.ensures
