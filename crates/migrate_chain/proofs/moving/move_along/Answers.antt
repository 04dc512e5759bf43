use Rattle.migrate_chain.specs.declared.move_error.MoveError.TheVariants.{Failed}
use Rattle.migrate_chain.proofs.Started.{error_is}
use Rattle.migrate_chain.proofs.Causes.{cause_handed, cause_unasked, cause_passed}
use Rattle.migrate_chain.proofs.Along.{short_quiet}
use Rattle.migrate_chain.proofs.Ended.{stopped_early, led_along}
use Rattle.migrate_chain.proofs.moving.move_along.Goals as goal

pub returns-in_err-copy-clause-moves : goal.returns-in_err-copy-clause-moves
returns-in_err-copy-clause-moves g c =
    rw (error_is c.from_residual.result _ c.from_residual.ensures.1) (stopped_early c.args.start.now _ c.args.to.now c.in_err-copy.field-0.0
    c.in_err-copy.ensures.others c.in_err-copy.ensures.stopped)

pub returns-clause-moves : goal.returns-clause-moves
returns-clause-moves g c =
    led_along c.args.start.now _ c.args.to.now c.lead_to_copy.result c.in_ok-copy.ensures.copied.0 c.in_ok-copy.copy c.in_ok-copy.ensures.copied.1
    c.lead_to_copy.ensures.answer c.in_ok-copy.ensures.others c.in_ok-copy.ensures.copied.2 c.lead_to_copy.ensures.turned c.lead_to_copy.ensures.falls_short

pub returns-in_err-copy-clause-disk_cause : goal.returns-in_err-copy-clause-disk_cause
returns-in_err-copy-clause-disk_cause g c = cause_passed c.from_residual.result Failed c.in_err-copy.field-0.0 _ _ c.from_residual.ensures.1
    c.in_err-copy.ensures.disk_cause

pub returns-in_err-copy-clause-spawn_cause : goal.returns-in_err-copy-clause-spawn_cause
returns-in_err-copy-clause-spawn_cause g c = cause_handed c.from_residual.result c.in_err-copy.field-0.0 _ _ c.from_residual.ensures.1
    c.in_err-copy.ensures.spawn_cause

pub returns-clause-spawn_cause : goal.returns-clause-spawn_cause
returns-clause-spawn_cause g c = cause_unasked c.in_ok-copy.copy c.lead_to_copy.result _ _
    (short_quiet c.in_ok-copy.copy _ _ c.lead_to_copy.result c.lead_to_copy.ensures.falls_short) c.in_ok-copy.ensures.spawn_cause
