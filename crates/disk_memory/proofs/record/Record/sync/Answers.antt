use Rattle.std.specs.Prelude.{is_ok}
use Rattle.outside.specs.History.{begun}
use Rattle.disk_memory.specs.Nodes.{tree_in}
use Rattle.disk_memory.proofs.Changes.{agreed_synced}
use Rattle.disk_memory.proofs.record.Record.sync.Goals as goal

pub invariant_of-self : goal.invariant_of-self
invariant_of-self c = record {
  agrees = agreed_synced (begun (tree_in c.args.self.now.began)) c.args.self.now.changes.items c.push.new.self.items
      c.args.self.now.nodes (is_ok c.push.result) c.args.self.now.agrees c.push.ensures.items;
}
