use Rattle.fs_datastore.proofs.Filing.{no_files_of, files_of_next}
use Rattle.fs_datastore.proofs.batch.files_of.Goals as goal

pub loop-entry-init : goal.loop-entry-init
loop-entry-init c = no_files_of c.args.entries.now _ c.new-files.ensures.empty

pub loop-entry-preserved : goal.loop-entry-preserved
loop-entry-preserved c = files_of_next c.args.entries.now c.loop-entry.entry-index c.entry-item.result c.loop-entry.files c.put_file.new.files
    c.loop-entry-test.true c.entry-item.is c.loop-entry.invariant c.in_ok-put_file.ensures
