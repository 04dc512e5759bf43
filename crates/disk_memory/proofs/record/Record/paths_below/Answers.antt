use Rattle.std.proofs.Common.{sym, ◌∙◌, ap, filter, List}
use Rattle.std.proofs.lemmas.Result.{IfOk-weaker}
use Rattle.outside.specs.Names.{Names, is_below}
use Rattle.outside.specs.History.{tree_of}
use Rattle.disk_memory.specs.Nodes.{node_of}
use Rattle.disk_memory.specs.Disk.{told_by}
use Rattle.disk_memory.proofs.Keys.{keys_same}
use Rattle.disk_memory.proofs.record.Record.paths_below.Goals as goal

pub returns : goal.returns
returns c =
    let kept = c.args.self.now in
    IfOk-weaker c.paths_below.result _ _ (λ found is. is ∙ ap (λ (ks : List Names). filter (is_below c.args.path.now) ks)
    (sym (keys_same node_of (tree_of (told_by kept)) kept.nodes kept.agrees c.paths_below.ensures.ordered))) c.paths_below.ensures.paths
