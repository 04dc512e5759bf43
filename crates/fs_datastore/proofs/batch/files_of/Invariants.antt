use Rattle.std.proofs.Common.{take}
use Rattle.fs_datastore.specs.Batches.{AreFilesOf}
use Rattle.fs_datastore.proofs.batch.files_of.Given as goal

abbrev pub invariant-loop-entry : goal.invariant-loop-entry
invariant-loop-entry l = AreFilesOf (take l.entry-index l.entries) l.files
