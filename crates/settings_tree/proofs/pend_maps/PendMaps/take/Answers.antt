use Rattle.settings_tree.proofs.PendingMaps.{take_pending}
use Rattle.settings_tree.proofs.pend_maps.PendMaps.take.Goals as goal

pub invariant_of-self : goal.invariant_of-self
invariant_of-self c = take_pending c.self.inside.transactions c.args.self.now c.self.view_is c.self.invariant c.args.tx.now c.args.key.now _ c.take.ensures.gone
