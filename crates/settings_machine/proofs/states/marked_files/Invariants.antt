use Rattle.std.proofs.Common.{◌≡◌, ◌++◌, length, map}
use Rattle.std.specs.Vec.Iter.{into_iter_items, into_iter_len}
use Rattle.metadata_links.specs.Faults.{has_name}
use Rattle.metadata_links.specs.Links.{files_of}
use Rattle.settings_machine.specs.VerifySeen.{marked_files}
use Rattle.settings_machine.proofs.states.marked_files.Given as goal

-- The files so far are marked, and the others are still to be.
abbrev pub invariant-loop-file : goal.invariant-loop-file
invariant-loop-file l = record {
  can_next : (goal.iterator-loop-file).can_next l.file-iterator;
  is_finite : (goal.iterator-loop-file).is_finite l.file-iterator;
  marked : l.files.items ++ map (λ file. (file, has_name (files_of l.manifest l.owed) file)) (into_iter_items l.file-iterator) ≡ marked_files l.manifest l.owed;
  left : length (into_iter_items l.file-iterator) ≡ into_iter_len l.file-iterator;
}
