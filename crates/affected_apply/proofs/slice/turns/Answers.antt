use Rattle.std.proofs.Common.{◌≡◌, ◌≢◌, ◌⊎◌, inl, inr, ◌-◌, ◌&&◌, true, false, Some, refl, ◌∙◌, sym, ap}
use Rattle.std.specs.Option.{option_map}
use Rattle.outside.proofs.Told.{moves_map, moves_stay, moves_then}
use Rattle.settings_machine.specs.World.{is_running}
use Rattle.affected_apply.specs.Jobs.{job_of, failed_with_disk, failed_to_spawn}
use Rattle.affected_apply.proofs.Causes.{running_fine, running_unspawned, first_fine, first_unspawned, no_cause, cause_more}
use Rattle.affected_apply.proofs.Slices.{none_yet, one_more, held_more, all_made}
use Rattle.affected_apply.proofs.slice.turns.Goals.{then-loop-job-test+else-is_running, else-loop-job-test}
use Rattle.affected_apply.proofs.slice.turns.Goals as goal

pub loop-job-init : goal.loop-job-init
loop-job-init g c = (
  moves_stay (none_yet c.args.store.now c.args.slice c.args.held.now (job_of c.args.job.now) (g.S.Spawner.runs c.args.spawner.now)),
  c.requires.known,
  λ e. e,
  no_cause (is_running (job_of c.args.job.now) && failed_with_disk (job_of c.args.job.now)) (first_fine (job_of c.args.job.now))
      (g.D.Disk.faults c.args.disk.now),
  no_cause (is_running (job_of c.args.job.now) && failed_to_spawn (job_of c.args.job.now)) (first_unspawned (job_of c.args.job.now))
      (g.S.Spawner.faults c.args.spawner.now),
  refl,
  λ e. e,
  refl,
)

pub loop-job-preserved : goal.loop-job-preserved
loop-job-preserved g c =
    let inv = c.loop-job.invariant in
    let some : c.loop-job.left ≢ Some 0 = c.any_left.ensures.some c.loop-job-test.true in
    let running : is_running (job_of c.loop-job.job) ≡ true = sym c.is_running.ensures ∙ c.if-is_running.true in
    let ran : is_running (job_of c.args.job.now) ≡ true = inv.2 running in (
      moves_then
          (λ old mid new so_far turn. one_more c.args.store.now c.args.slice c.loop-job.left c.one_less-left.result c.one_less-left.ensures c.args.held.now
          (job_of c.args.job.now)
          c.loop-job.held (job_of c.loop-job.job) c.turn.new.held (job_of c.turn.new.job)
          (g.S.Spawner.runs c.args.spawner.now) (g.S.Spawner.runs c.loop-job.spawner) (g.S.Spawner.runs c.turn.new.spawner) old mid new ran running some so_far
          turn)
          inv.0 c.turn.ensures.event,
      c.turn.ensures.known,
      λ e. ran,
      cause_more (g.D.Disk.faults c.args.disk.now) (g.D.Disk.faults c.loop-job.disk) (g.D.Disk.faults c.turn.new.disk) (is_running (job_of c.args.job.now))
          (failed_with_disk (job_of c.loop-job.job)) (failed_with_disk (job_of c.turn.new.job))
          ran (running_fine (job_of c.loop-job.job) running) inv.3 c.turn.ensures.disk_faults,
      cause_more (g.S.Spawner.faults c.args.spawner.now) (g.S.Spawner.faults c.loop-job.spawner) (g.S.Spawner.faults c.turn.new.spawner)
          (is_running (job_of c.args.job.now))
          (failed_to_spawn (job_of c.loop-job.job))
          (failed_to_spawn (job_of c.turn.new.job))
          ran (running_unspawned (job_of c.loop-job.job) running) inv.4 c.turn.ensures.spawner_faults,
      c.turn.ensures.asked ∙ inv.5,
      λ none. c.one_less-left.ensures ∙ ap (option_map (λ n. n - 1)) (inv.6 none),
      held_more c.args.held.now c.loop-job.held c.turn.new.held inv.7 c.turn.ensures.held,
    )

pub returns-clause-turns : goal.returns-clause-turns
returns-clause-turns g c =
    let done : (c.loop-job.left ≡ Some 0) ⊎ (is_running (job_of c.loop-job.job) ≡ false) = elim c.loop-job-test.branch [
      | then-loop-job-test+else-is_running w ↦ inr (sym w.is_running.ensures ∙ w.if-is_running.false)
      | else-loop-job-test w ↦ inl (c.any_left.ensures.none w.loop-job-test.false)
    ] in
    moves_map
    (λ old new so_far. all_made c.args.store.now c.args.slice c.loop-job.left c.args.held.now (job_of c.args.job.now) c.loop-job.held (job_of c.loop-job.job)
    (g.S.Spawner.runs c.args.spawner.now) (g.S.Spawner.runs c.loop-job.spawner) old new done so_far)
    c.loop-job.invariant.0
