use Rattle.std.proofs.Common.{refl}
use Rattle.settings_tree.specs.Change.{TheOwed}
use Rattle.fs_datastore.specs.Values.{owed}
use Rattle.fs_datastore.proofs.Savings.{file_saved}
use Rattle.fs_datastore.proofs.saving.save_owed.Goals as goal

pub returns-clause-saves : goal.returns-clause-saves
returns-clause-saves g c = file_saved c.args.dir.now TheOwed (owed c.args.keys.now) c.in_ok-path.path c.in_ok-text.text _ _ _ refl c.in_ok-path.ensures
    c.in_ok-text.ensures.spelled c.write_text.ensures.writes
