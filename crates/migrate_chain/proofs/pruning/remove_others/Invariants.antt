use Rattle.std.proofs.Common.{◌≡◌, ◌≤◌, take}
use Rattle.outside.specs.Told.{Moves}
use Rattle.migrate_chain.specs.Pruning.{SoMany}
use Rattle.migrate_chain.specs.PruningSteps.{RemovesAll}
use Rattle.migrate_chain.specs.Store.{IsLeftOver}
use Rattle.migrate_chain.proofs.pruning.remove_others.Given as goal

-- those of the paths so far were removed and counted
abbrev pub invariant-loop-path : goal.invariant-loop-path
invariant-loop-path g l = record {
  removes : Moves (g.D.Disk.told l.initial.disk) (g.D.Disk.told l.disk) (RemovesAll l.directory (take l.path-index l.paths));
  faults : g.D.Disk.faults l.disk ≡ g.D.Disk.faults l.initial.disk;
  counted : SoMany (IsLeftOver l.directory) (take l.path-index l.paths) l.count;
  bound : l.count ≤ l.path-index;
}
