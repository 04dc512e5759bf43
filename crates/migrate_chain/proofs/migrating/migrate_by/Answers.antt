use Rattle.std.proofs.Common.{Err, refl}
use Rattle.migrate_chain.proofs.Started.{error_is}
use Rattle.migrate_chain.proofs.Causes.{cause_quiet}
use Rattle.migrate_chain.proofs.Migrated.{not_found}
use Rattle.migrate_chain.proofs.Ended.{unasked}
use Rattle.migrate_chain.proofs.migrating.migrate_by.Goals as goal

pub returns-in_err-start-clause-moves : goal.returns-in_err-start-clause-moves
returns-in_err-start-clause-moves g c =
    rw (error_is c.from_residual.result _ c.from_residual.ensures.1)
    (unasked (Err c.in_err-start.field-0.0) c.in_err-start.ensures.no_refusal
    (not_found c.args.to.now c.args.release.now.transitions.items c.args.release.now.migrations.items _ _ _ _ c.in_err-start.field-0.0 _ _ refl refl
    c.in_err-start.ensures.no_refusal c.in_err-start.ensures.starts))

pub returns-clause-moves : goal.returns-clause-moves
returns-clause-moves g c = c.move_from.ensures.moves _ c.in_ok-start.ensures.starts

pub returns-in_err-start-clause-spawn_cause : goal.returns-in_err-start-clause-spawn_cause
returns-in_err-start-clause-spawn_cause g c = cause_quiet c.from_residual.result c.in_err-start.field-0.0 _ _ refl c.from_residual.ensures.1
    c.in_err-start.ensures.no_refusal
