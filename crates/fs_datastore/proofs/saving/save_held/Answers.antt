use Rattle.std.proofs.Common.{Some}
use Rattle.fs_datastore.specs.Values.{value_in}
use Rattle.fs_datastore.specs.Saving.{put_over, live_values, all_metadata, all_pending, single_values}
use Rattle.fs_datastore.proofs.Savings.{saved_alike, saved_then, saved_later}
use Rattle.fs_datastore.proofs.SavedWhole.{parts}
use Rattle.fs_datastore.proofs.saving.save_held.Goals as goal

pub returns-clause-saves : goal.returns-clause-saves
returns-clause-saves g c =
    let dir = c.args.dir.now in
    let held = c.args.held.now in
    let v = live_values c.values.result.now in
    let m = all_metadata c.metadata.result.now in
    let t = all_pending c.transactions.result.now in
    let s = single_values held in
    saved_alike dir (put_over s (put_over t (put_over m v))) (value_in held (Some held.live.weak)) c.save_single.result _ _
    (parts held c.values.result.now c.metadata.result.now c.transactions.result.now c.values.ensures.values c.metadata.ensures.metadata
    c.transactions.ensures.transactions)
    (saved_then dir (put_over t (put_over m v)) s tt c.save_single.result _ _ _
    (saved_then dir (put_over m v) t tt _ _ _ _ (saved_then dir v m _ _ _ _ _ c.in_ok-save_values.ensures.saves c.in_ok-save_metadata.ensures.saves)
    c.in_ok-save_pending_maps.ensures.saves)
    c.save_single.ensures.saves)

pub returns-in_err-save_pending_maps-clause-saves : goal.returns-in_err-save_pending_maps-clause-saves
returns-in_err-save_pending_maps-clause-saves g c =
    let dir = c.args.dir.now in
    let held = c.args.held.now in
    let v = live_values c.values.result.now in
    let m = all_metadata c.metadata.result.now in
    saved_later dir (put_over m v) (all_pending c.transactions.result.now) (value_in held (Some held.live.weak)) tt _ _ _ _ _
    c.from_residual-in_err-save_pending_maps.ensures.0
    (saved_then dir v m _ _ _ _ _ c.in_ok-save_values.ensures.saves c.in_ok-save_metadata.ensures.saves) c.in_err-save_pending_maps.ensures.saves
