use Rattle.settings_tree.specs.Change.{Meta}
use Rattle.fs_datastore.specs.Values.{live}
use Rattle.fs_datastore.proofs.Savings.{file_saved}
use Rattle.fs_datastore.proofs.saving.save_meta.Goals as goal

pub returns-clause-saves : goal.returns-clause-saves
returns-clause-saves g c = file_saved c.args.dir.now (Meta c.args.key.now c.args.name.now) (live c.args.value.now) c.in_ok-path.path c.in_ok-text.text _ _ _
    c.in_ok-path.ensures.valid c.in_ok-path.ensures.path c.in_ok-text.ensures.reads_back c.write_text.ensures.writes
