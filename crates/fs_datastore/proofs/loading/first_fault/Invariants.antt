use Rattle.std.proofs.Common.{◌≡◌, take}
use Rattle.outside.specs.Told.{WhereTold}
use Rattle.fs_datastore.specs.FoundFiles.{KeepsRules}
use Rattle.fs_datastore.specs.Loading.{ReadsFirst}
use Rattle.fs_datastore.proofs.loading.first_fault.Given as goal

-- the disk is as it was, and the files at the first paths were read
abbrev pub invariant-loop-path : goal.invariant-loop-path
invariant-loop-path g l = record {
  same : g.D.Disk.told l.disk ≡ g.D.Disk.told l.fn.disk;
  faults : g.D.Disk.faults l.disk ≡ g.D.Disk.faults l.fn.disk;
  rules : KeepsRules l.found;
  read : WhereTold (g.D.Disk.told l.fn.disk) (ReadsFirst l.paths (take l.path-index l.paths) l.fn.found l.found);
}
