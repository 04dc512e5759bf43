use Rattle.std.proofs.Common.{◌≡◌, take}
use Rattle.outside.specs.History.{tree_of}
use Rattle.outside.specs.Told.{WhereTold}
use Rattle.disk_memory.specs.Nodes.{tree_of_last}
use Rattle.store_open.specs.Copying.{HasOnly}
use Rattle.store_open.proofs.copying.copy_nodes.Given as goal

-- the disk is as it was, and what is at the first paths was copied
abbrev pub invariant-loop-path : goal.invariant-loop-path
invariant-loop-path g l = record {
  same : g.D.Disk.told l.disk ≡ g.D.Disk.told l.fn.disk;
  faults : g.D.Disk.faults l.disk ≡ g.D.Disk.faults l.fn.disk;
  copied : WhereTold (g.D.Disk.told l.fn.disk) (λ h. HasOnly (take l.path-index l.paths) (tree_of h) (tree_of_last l.nodes.items));
}
