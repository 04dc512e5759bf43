use Rattle.std.proofs.Common.{List, [], refl, sym, subst}
use Rattle.outside.specs.History.{tree_of}
use Rattle.outside.specs.Names.{Names}
use Rattle.outside.specs.Told.{WhereTold}
use Rattle.outside.proofs.Told.{where_all}
use Rattle.disk_memory.specs.Nodes.{tree_of_last}
use Rattle.disk_memory.specs.declared.node.Node.{Node}
use Rattle.store_open.specs.Copying.{HasOnly}
use Rattle.store_open.proofs.Copied.{nothing_copied}
use Rattle.store_open.proofs.copying.copy_nodes.Goals as goal

pub loop-path-init : goal.loop-path-init
loop-path-init g c = record {
  same = refl;
  faults = refl;
  copied =
      subst (λ (l : List (Names × Node)). WhereTold (g.D.Disk.told c.args.disk.now) (λ h. HasOnly [] (tree_of h) (tree_of_last l)))
      (sym c.new-nodes.ensures.items) (where_all (λ h. nothing_copied (tree_of h)));
}
