use Rattle.settings_tree.proofs.PendingMaps.{put_pending}
use Rattle.settings_tree.proofs.pend_maps.PendMaps.put.Goals as goal

pub invariant_of-self : goal.invariant_of-self
invariant_of-self c = put_pending c.self.inside.transactions c.args.self.now c.self.view_is c.self.invariant c.put.result c.args.tx c.args.key c.args.value _
    c.requires c.put.ensures.ok c.put.ensures.err
