use Rattle.std.proofs.Common.{◌≡◌}
use Rattle.outside.specs.declared.disk_error.DiskErr.{DiskErr}
use Rattle.fs_datastore.specs.Saving.{all_pending}
use Rattle.fs_datastore.proofs.SavedWalks.{SavedUpTo, keys_entry}
use Rattle.fs_datastore.proofs.saving.save_pending_maps.Given as goal

-- what is before this one is saved
abbrev pub invariant-loop-tx : goal.invariant-loop-tx
invariant-loop-tx g l = record {
  saved : SavedUpTo DiskErr l.dir l.transactions keys_entry (all_pending l.transactions) l.tx-iterator
      (g.D.Disk.told l.initial.disk) (g.D.Disk.told l.disk);
  faults : g.D.Disk.faults l.disk ≡ g.D.Disk.faults l.initial.disk;
}
