use Rattle.std.proofs.Common.{refl, inl, inr, subst, ◌∙◌}
use Rattle.outside.proofs.Results.{handed_on}
use Rattle.release_file.specs.Release.{names_known}
use Rattle.migrate_chain.specs.Store.{owing_all}
use Rattle.migrate_chain.specs.Errors.{of_disk, of_task}
use Rattle.migrate_chain.specs.Tasks.{tasks_in}
use Rattle.migrate_chain.specs.Carrying.{IsDone, StopsAt}
use Rattle.migrate_chain.proofs.Carried.{carried_none, step_known, step_carried, step_stopped, steps_partly, steps_carried}
use Rattle.migrate_chain.proofs.Causes.{cause_spawned, cause_quiet, cause_done, disk_quiet}
use Rattle.migrate_chain.proofs.Along.{none_saved, saved_then, copies_others, copy_saved}
use Rattle.migrate_chain.proofs.moving.copy_along.Goals as goal

pub loop-transition-init : goal.loop-transition-init
loop-transition-init g c = record { done = carried_none; others = none_saved _; runs = refl; disk_faults = refl; spawn_faults = refl }

pub returns-in_err-copy_reached-clause-others : goal.returns-in_err-copy_reached-clause-others
returns-in_err-copy_reached-clause-others g c = saved_then _ _ _ c.loop-transition.invariant.others c.in_err-copy_reached.ensures.others

pub returns-in_err-copy_reached-clause-stopped : goal.returns-in_err-copy_reached-clause-stopped
returns-in_err-copy_reached-clause-stopped g c =
    handed_on c.from_residual.result (of_disk c.in_err-copy_reached.field-0.0) _ c.from_residual.ensures.1
    (inl (
      c.in_err-copy_reached.field-0.0,
      refl,
      steps_partly (λ t. t.now) c.args.migrations.now c.args.back c.args.way.now c.loop-transition.transition-index
          c.loop-transition.invariant.done,
    ))

pub carry_out-requires : goal.carry_out-requires
carry_out-requires g c = step_known (λ t. t.now) c.args.migrations.now c.args.back c.args.way.now c.loop-transition.transition-index
    (names_known c.args.migrations.now) c.transition-item.result c.requires c.loop-transition-test.true c.transition-item.is

pub returns-in_err-carry_out-clause-others : goal.returns-in_err-carry_out-clause-others
returns-in_err-carry_out-clause-others g c = saved_then _ _ _ c.loop-transition.invariant.others c.in_ok-copy_reached.ensures.others

pub returns-in_err-carry_out-clause-stopped : goal.returns-in_err-carry_out-clause-stopped
returns-in_err-carry_out-clause-stopped g c =
    handed_on c.from_residual-in_err-carry_out.result (of_task c.in_err-carry_out.field-0.0) _ c.from_residual-in_err-carry_out.ensures.1
    (inr (
      c.in_err-carry_out.field-0.0,
      refl,
      step_stopped (λ t. t.now) c.args.migrations.now c.args.back c.args.way.now c.loop-transition.transition-index c.loop-transition.invariant.done
          c.transition-item.result c.in_err-carry_out.field-0.0 c.loop-transition-test.true c.transition-item.is
          (subst (λ h. StopsAt (tasks_in c.args.migrations.now c.args.back c.transition-item.result.now) h (g.S.Spawner.asked c.loop-transition.spawner)
          (g.S.Spawner.asked c.carry_out.new.spawner) c.in_err-carry_out.field-0.0) c.in_ok-copy_reached.ensures.held c.in_err-carry_out.ensures.stopped),
    ))

pub loop-transition-preserved : goal.loop-transition-preserved
loop-transition-preserved g c = record {
  done = step_carried (λ t. t.now) c.args.migrations.now c.args.back c.args.way.now c.loop-transition.transition-index c.loop-transition.invariant.done
      c.transition-item.result c.carry_out.new.held c.loop-transition-test.true c.transition-item.is
      (subst (λ h. IsDone (tasks_in c.args.migrations.now c.args.back c.transition-item.result.now) h c.carry_out.new.held
      (g.S.Spawner.asked c.loop-transition.spawner) (g.S.Spawner.asked c.carry_out.new.spawner)) c.in_ok-copy_reached.ensures.held
      c.in_ok-carry_out.ensures.carried);
  others = saved_then _ _ _ c.loop-transition.invariant.others c.in_ok-copy_reached.ensures.others;
  runs = c.in_ok-carry_out.ensures.ran ∙ c.loop-transition.invariant.runs;
  disk_faults = c.in_ok-copy_reached.ensures.cause.kept ∙ c.loop-transition.invariant.disk_faults;
  spawn_faults = c.in_ok-carry_out.ensures.cause.kept ∙ c.loop-transition.invariant.spawn_faults;
}

pub returns-in_err-copy_owing_all-clause-others : goal.returns-in_err-copy_owing_all-clause-others
returns-in_err-copy_owing_all-clause-others g c = saved_then _ _ _ c.loop-transition.invariant.others
    (copies_others _ _ _ _ _ c.in_err-copy_owing_all.ensures.copies)

pub returns-in_err-copy_owing_all-clause-stopped : goal.returns-in_err-copy_owing_all-clause-stopped
returns-in_err-copy_owing_all-clause-stopped g c =
    handed_on c.from_residual-in_err-copy_owing_all.result (of_disk c.in_err-copy_owing_all.field-0.0) _ c.from_residual-in_err-copy_owing_all.ensures.1
    (inl (
      c.in_err-copy_owing_all.field-0.0,
      refl,
      steps_partly (λ t. t.now) c.args.migrations.now c.args.back c.args.way.now c.loop-transition.transition-index
          c.loop-transition.invariant.done,
    ))

pub returns-clause-others : goal.returns-clause-others
returns-clause-others g c = saved_then _ _ _ c.loop-transition.invariant.others (copies_others _ _ _ _ _ c.in_ok-copy_owing_all.ensures.copies)

pub returns-clause-copied : goal.returns-clause-copied
returns-clause-copied g c = (
  c.loop-transition.held,
  steps_carried (λ t. t.now) c.args.migrations.now c.args.back c.args.way.now c.loop-transition.transition-index c.loop-transition-test.false
      c.loop-transition.invariant.done,
  copy_saved c.args.to.now (owing_all c.loop-transition.held) c.in_ok-copy_owing_all.field-0 _ _ _ c.loop-transition.invariant.others
      c.in_ok-copy_owing_all.ensures.copies,
)

pub returns-in_err-carry_out-clause-spawn_cause : goal.returns-in_err-carry_out-clause-spawn_cause
returns-in_err-carry_out-clause-spawn_cause g c =
    cause_spawned c.from_residual-in_err-carry_out.result c.in_err-carry_out.field-0.0 _ _ _ c.loop-transition.invariant.spawn_faults
    c.from_residual-in_err-carry_out.ensures.1 c.in_err-carry_out.ensures.cause

pub returns-in_err-copy_reached-clause-spawn_cause : goal.returns-in_err-copy_reached-clause-spawn_cause
returns-in_err-copy_reached-clause-spawn_cause g c =
    cause_quiet c.from_residual.result (of_disk c.in_err-copy_reached.field-0.0) _ _ c.loop-transition.invariant.spawn_faults c.from_residual.ensures.1
    (disk_quiet c.in_err-copy_reached.field-0.0)

pub returns-in_err-copy_owing_all-clause-spawn_cause : goal.returns-in_err-copy_owing_all-clause-spawn_cause
returns-in_err-copy_owing_all-clause-spawn_cause g c =
    cause_quiet c.from_residual-in_err-copy_owing_all.result (of_disk c.in_err-copy_owing_all.field-0.0) _ _ c.loop-transition.invariant.spawn_faults
    c.from_residual-in_err-copy_owing_all.ensures.1 (disk_quiet c.in_err-copy_owing_all.field-0.0)

pub returns-clause-spawn_cause : goal.returns-clause-spawn_cause
returns-clause-spawn_cause g c = cause_done _ _ _ c.loop-transition.invariant.spawn_faults
