use Rattle.fs_datastore.proofs.SavedWhole.{whole_fails, whole_untold}
use Rattle.fs_datastore.proofs.saving.save_all.Goals as goal

pub returns-in_err-save_held-clause-saves : goal.returns-in_err-save_held-clause-saves
returns-in_err-save_held-clause-saves g c =
    whole_fails c.args.dir.now c.args.held.now _ c.from_residual.result _ _ c.from_residual.ensures.0 c.in_err-save_held.ensures.saves

pub returns-in_err-save_format-clause-saves : goal.returns-in_err-save_format-clause-saves
returns-in_err-save_format-clause-saves g c =
    whole_untold c.args.dir.now c.args.held.now _ _ c.from_residual-in_err-save_format.result _ _ _ c.from_residual-in_err-save_format.ensures.0
    c.in_ok-save_held.ensures.saves c.in_err-save_format.ensures.tells
