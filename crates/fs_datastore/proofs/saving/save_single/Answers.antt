use Rattle.settings_tree.specs.Change.{TheOwed, TheImage, TheWeak}
use Rattle.fs_datastore.specs.Values.{owed, image, weak}
use Rattle.fs_datastore.specs.Saving.{put_over, value_at_place, single_values}
use Rattle.fs_datastore.proofs.Savings.{saved_alike, saved_then}
use Rattle.fs_datastore.proofs.SavedWhole.{singles}
use Rattle.fs_datastore.proofs.saving.save_single.Goals as goal

pub returns-clause-saves : goal.returns-clause-saves
returns-clause-saves g c =
    let dir = c.args.dir.now in
    let held = c.args.held.now in
    let o = value_at_place TheOwed (owed held.owed) in
    let i = value_at_place TheImage (image held.image) in
    let w = value_at_place TheWeak (weak c.weak.result.now) in
    saved_alike dir (put_over w (put_over i o)) (single_values held) c.save_weak.result _ _ (singles held c.weak.result.now c.weak.ensures.weak)
    (saved_then dir (put_over i o) w tt c.save_weak.result _ _ _ (saved_then dir o i _ _ _ _ _ c.in_ok-save_owed.ensures.saves c.in_ok-save_image.ensures.saves)
    c.save_weak.ensures.saves)
