use Rattle.settings_tree.proofs.Contents.{put_keeps, put_new_keeps}
use Rattle.settings_tree.proofs.content.Content.put.Goals as goal

pub invariant_of-self : goal.invariant_of-self
invariant_of-self c = put_keeps c.self.inside.values c.self.inside.metadata c.self.inside.weak c.args.self.now c.self.view_is c.self.invariant c.args.key
    c.args.value _ _ c.requires c.put_over.ensures c.remove.ensures

pub invariant_of-self-else-is_some : goal.invariant_of-self-else-is_some
invariant_of-self-else-is_some c = put_new_keeps c.self.inside.values c.self.inside.metadata c.self.inside.weak c.args.self.now c.self.view_is c.self.invariant
    c.put.result c.args.key c.args.value _ c.requires c.put.ensures.ok c.put.ensures.err
