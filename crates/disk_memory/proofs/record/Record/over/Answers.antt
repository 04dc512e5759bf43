use Rattle.disk_memory.proofs.Changes.{agreed_begun}
use Rattle.disk_memory.proofs.record.Record.over.Goals as goal

pub invariant_of-result : goal.invariant_of-result
invariant_of-result c = record { agrees = agreed_begun c.args.began c.in_ok-nodes.nodes c.new.result.items c.in_ok-nodes.ensures c.new.ensures.items }
