use Rattle.std.proofs.Common.{◌≡◌, take}
use Rattle.outside.specs.Told.{Moves}
use Rattle.commit_journal.specs.Install.{HasInstalled}
use Rattle.commit_journal.specs.Placed.{places_of}
use Rattle.commit_journal.proofs.install.install.Given as goal

abbrev pub invariant-loop-entry : goal.invariant-loop-entry
invariant-loop-entry g l = record {
  moves : Moves (g.D.Disk.told l.initial.disk) (g.D.Disk.told l.disk) (HasInstalled (places_of l.entries) (places_of (take l.entry-index l.entries)));
  kept : g.D.Disk.faults l.disk ≡ g.D.Disk.faults l.initial.disk;
}
