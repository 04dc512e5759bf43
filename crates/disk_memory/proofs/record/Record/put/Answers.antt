use Rattle.outside.specs.History.{begun}
use Rattle.disk_memory.specs.Nodes.{tree_in}
use Rattle.disk_memory.proofs.record.Record.put.Goals as goal

pub invariant_of-self : goal.invariant_of-self
invariant_of-self c = record { agrees = c.lay.ensures.agrees.stays (begun (tree_in c.args.self.now.began)) c.args.self.now.agrees }
