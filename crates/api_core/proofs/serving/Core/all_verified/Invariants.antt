use Rattle.std.proofs.Common.{◌≡◌, length}
use Rattle.std.specs.Vec.Iter.{into_iter_items, into_iter_len}
use Rattle.outside.specs.Told.{WhereTold}
use Rattle.settings_machine.specs.VerifySeen.{marked_files}
use Rattle.api_core.proofs.Verifications.{SoFar}
use Rattle.api_core.proofs.serving.Core.all_verified.Given as goal

-- The disk is as it was; the files so far are verified, and the others are still to be.
abbrev pub invariant-loop-file : goal.invariant-loop-file
invariant-loop-file g l = record {
  can_next : (goal.iterator-loop-file g).can_next l.file-iterator;
  is_finite : (goal.iterator-loop-file g).is_finite l.file-iterator;
  same : g.D.Disk.told l.disk ≡ g.D.Disk.told l.fn.disk;
  faults : g.D.Disk.faults l.disk ≡ g.D.Disk.faults l.fn.disk;
  verified : WhereTold (g.D.Disk.told l.fn.disk)
      (SoFar l.self (marked_files l.self.image.manifest l.self.held.owed) l.files.items (into_iter_items l.file-iterator));
  left : length (into_iter_items l.file-iterator) ≡ into_iter_len l.file-iterator;
}
