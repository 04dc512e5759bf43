use Rattle.std.proofs.Common.{inl, inr, refl}
use Rattle.outside.proofs.Told.{moves_after}
use Rattle.migrate_chain.proofs.Pruned.{fails_at_once, fails_to_sync, fails_behind, prune_ends, still_removed, disk_late}
use Rattle.migrate_chain.proofs.Started.{error_is}
use Rattle.migrate_chain.proofs.pruning.prune_beside.Goals as goal

pub returns-in_err-folder-clause-prunes : goal.returns-in_err-folder-clause-prunes
returns-in_err-folder-clause-prunes g c = λ place there led.
    rw (error_is c.from_residual.result _ c.from_residual.ensures.1) (fails_at_once place _ _ _ (inr refl) led refl)

pub returns-in_err-sync-clause-prunes : goal.returns-in_err-sync-clause-prunes
returns-in_err-sync-clause-prunes g c = λ place there led.
    rw (error_is c.from_residual-in_err-sync.result _ c.from_residual-in_err-sync.ensures.1)
    (fails_to_sync place c.in_err-sync.field-0.0 _ _ led c.in_err-sync.ensures.synced)

pub returns-in_err-paths-clause-prunes : goal.returns-in_err-paths-clause-prunes
returns-in_err-paths-clause-prunes g c = λ place there led.
    rw (error_is c.from_residual-in_err-paths.result _ c.from_residual-in_err-paths.ensures.1)
    (fails_behind place _ c.in_ok-sync.field-0 _ _ _ (disk_late c.in_err-paths.field-0.0) led c.in_ok-sync.ensures.synced
    (still_removed place.directory _ _ c.in_err-paths.ensures.same))

pub returns-in_err-remove_others-clause-prunes : goal.returns-in_err-remove_others-clause-prunes
returns-in_err-remove_others-clause-prunes g c = λ place there led.
    rw (error_is c.from_residual-in_err-remove_others.result _ c.from_residual-in_err-remove_others.ensures.1)
    (fails_behind place _ c.in_ok-sync.field-0 _ _ _ (inl refl) led c.in_ok-sync.ensures.synced
    (rw there (moves_after c.in_ok-paths.ensures.same c.in_err-remove_others.ensures.removes)))

pub returns-clause-prunes : goal.returns-clause-prunes
returns-clause-prunes g c = λ place there led.
    prune_ends place c.deref.result.now c.in_ok-folder.folder c.in_ok-remove_others.field-0 c.in_ok-sync.field-0 _ _ _ led
    c.in_ok-sync.ensures.synced c.in_ok-folder.ensures (rw c.deref.ensures.value c.in_ok-paths.ensures.paths)
    (rw there (moves_after c.in_ok-paths.ensures.same c.in_ok-remove_others.ensures.all)) (rw there c.in_ok-remove_others.ensures.counted)
