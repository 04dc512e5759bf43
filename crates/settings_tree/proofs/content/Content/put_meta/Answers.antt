use Rattle.settings_tree.proofs.Contents.{put_meta_keeps}
use Rattle.settings_tree.proofs.content.Content.put_meta.Goals as goal

pub invariant_of-self : goal.invariant_of-self
invariant_of-self c = put_meta_keeps c.self.inside.values c.self.inside.metadata c.self.inside.weak c.args.self.now c.self.view_is c.self.invariant c.put.result
    c.args.key c.args.name c.args.value _ c.requires c.put.ensures.ok c.put.ensures.err
