use Rattle.std.proofs.Common.{◌≡◌, drop}
use Rattle.outside.specs.declared.disk_error.DiskErr.{DiskErr}
use Rattle.fs_datastore.specs.Saving.{names_of_key}
use Rattle.fs_datastore.proofs.SavedWalks.{SavedUpTo, name_entry}
use Rattle.fs_datastore.proofs.saving.save_names.Given as goal

-- what is before this one is saved
abbrev pub invariant-loop-name : goal.invariant-loop-name
invariant-loop-name g l = record {
  saved : SavedUpTo DiskErr l.dir l.names (name_entry l.key) (names_of_key l.key l.names) (drop l.name-index l.name-items)
      (g.D.Disk.told l.initial.disk) (g.D.Disk.told l.disk);
  faults : g.D.Disk.faults l.disk ≡ g.D.Disk.faults l.initial.disk;
}
