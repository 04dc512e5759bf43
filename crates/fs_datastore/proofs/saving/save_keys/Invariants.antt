use Rattle.std.proofs.Common.{◌≡◌}
use Rattle.outside.specs.declared.disk_error.DiskErr.{DiskErr}
use Rattle.fs_datastore.specs.Saving.{keys_of_transaction}
use Rattle.fs_datastore.proofs.SavedWalks.{SavedUpTo, pending_entry}
use Rattle.fs_datastore.proofs.saving.save_keys.Given as goal

-- what is before this one is saved
abbrev pub invariant-loop-key : goal.invariant-loop-key
invariant-loop-key g l = record {
  saved : SavedUpTo DiskErr l.dir l.keys (pending_entry l.tx) (keys_of_transaction l.tx l.keys) l.key-iterator
      (g.D.Disk.told l.initial.disk) (g.D.Disk.told l.disk);
  faults : g.D.Disk.faults l.disk ≡ g.D.Disk.faults l.initial.disk;
}
