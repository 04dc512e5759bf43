use Rattle.std.proofs.Common.{ap, Err, refl}
use Rattle.outside.proofs.Told.{moves_after}
use Rattle.migrate_chain.proofs.Started.{led_from, error_is}
use Rattle.migrate_chain.proofs.Pruned.{prune_no_links, led_after}
use Rattle.migrate_chain.proofs.pruning.prune.Goals as goal

pub returns-in_err-place-clause-prunes : goal.returns-in_err-place-clause-prunes
returns-in_err-place-clause-prunes g c =
    rw (error_is c.from_residual.result _ c.from_residual.ensures.1) (prune_no_links c.in_err-place.field-0.0 _ _
    (λ path is. c.in_err-place.ensures.bad_link path (ap Err is)) c.in_err-place.ensures.same)

pub returns-clause-prunes : goal.returns-clause-prunes
returns-clause-prunes g c =
    moves_after c.in_ok-place.ensures.same (c.prune_beside.ensures.prunes c.in-Some.place refl
    (led_after _ c.in-Some.place c.in_ok-place.ensures.same (led_from _ c.in_ok-place.field-0 c.in-Some.place c.in-Some.is c.in_ok-place.ensures.ok)))
