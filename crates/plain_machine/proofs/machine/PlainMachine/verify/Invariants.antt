use Rattle.std.proofs.Common.{◌≡◌, length}
use Rattle.std.specs.Vec.Iter.{into_iter_items, into_iter_len}
use Rattle.settings_machine.specs.VerifySeen.{marked_files}
use Rattle.plain_machine.specs.Verified.{due_by}
use Rattle.plain_machine.proofs.Verifications.{SoFar}
use Rattle.plain_machine.proofs.machine.PlainMachine.verify.Given as goal

-- The files so far are there with their states, and the others are still to come.
abbrev pub invariant-loop-file : goal.invariant-loop-file
invariant-loop-file l = record {
  can_next : (goal.iterator-loop-file).can_next l.file-iterator;
  is_finite : (goal.iterator-loop-file).is_finite l.file-iterator;
  verified : SoFar l.image l.self (marked_files l.image.manifest (due_by l.image.text l.self.held)) l.files.items (into_iter_items l.file-iterator);
  left : length (into_iter_items l.file-iterator) ≡ into_iter_len l.file-iterator;
}
