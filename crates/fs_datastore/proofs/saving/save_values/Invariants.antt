use Rattle.std.proofs.Common.{◌≡◌}
use Rattle.outside.specs.declared.disk_error.DiskErr.{DiskErr}
use Rattle.fs_datastore.specs.Saving.{live_values}
use Rattle.fs_datastore.proofs.SavedWalks.{SavedUpTo, live_entry}
use Rattle.fs_datastore.proofs.saving.save_values.Given as goal

-- what is before this one is saved
abbrev pub invariant-loop-key : goal.invariant-loop-key
invariant-loop-key g l = record {
  saved : SavedUpTo DiskErr l.dir l.values live_entry (live_values l.values) l.key-iterator (g.D.Disk.told l.initial.disk) (g.D.Disk.told l.disk);
  faults : g.D.Disk.faults l.disk ≡ g.D.Disk.faults l.initial.disk;
}
