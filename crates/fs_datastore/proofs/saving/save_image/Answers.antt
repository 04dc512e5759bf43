use Rattle.std.proofs.Common.{refl}
use Rattle.settings_tree.specs.Change.{TheImage}
use Rattle.fs_datastore.specs.Values.{image}
use Rattle.fs_datastore.proofs.Savings.{file_saved}
use Rattle.fs_datastore.proofs.saving.save_image.Goals as goal

pub returns-clause-saves : goal.returns-clause-saves
returns-clause-saves g c = file_saved c.args.dir.now TheImage (image c.args.text.now) c.in_ok-path.path c.as_slice.result.now _ _ _ refl c.in_ok-path.ensures
    c.as_slice.ensures c.write.ensures.writes
