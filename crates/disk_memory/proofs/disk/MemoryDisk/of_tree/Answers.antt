use Rattle.std.proofs.Common.{◌∙◌, ap}
use Rattle.std.proofs.lemmas.Result.{IfOk-weaker}
use Rattle.outside.specs.History.{begun}
use Rattle.disk_memory.proofs.Given.{tree_given}
use Rattle.disk_memory.proofs.disk.MemoryDisk.of_tree.Goals as goal

pub returns-clause-history : goal.returns-clause-history
returns-clause-history c = IfOk-weaker c.over.result _ _ (λ disk is. is
    ∙ ap begun (tree_given c.args.nodes.items c.in_ok-map_of.field-0 c.in_ok-map_of.ensures)) c.over.ensures.history
