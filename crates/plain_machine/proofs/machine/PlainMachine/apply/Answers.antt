use Rattle.std.proofs.Common.{refl, ap}
use Rattle.settings_machine.specs.declared.job.Job.{Job}
use Rattle.settings_machine.specs.JobSeen.{job_seen}
use Rattle.settings_machine.specs.Step.{with_job}
use Rattle.plain_machine.proofs.RequestsAnswered.{asked_apply}
use Rattle.std.proofs.lemmas.Result.{on_ok_weaker, on_err_weaker}
use Rattle.plain_machine.specs.Worlds.{world_of}
use Rattle.plain_machine.proofs.machine.PlainMachine.apply.Goals as goal

pub returns-clause-asked : goal.returns-clause-asked
returns-clause-asked c = on_ok_weaker c.apply.result (λ a. asked_apply c.args.image.now c.args.self.now _ a refl) c.apply.ensures.applied

pub returns-clause-unchanged : goal.returns-clause-unchanged
returns-clause-unchanged c = on_err_weaker c.apply.result (λ same. ap (λ (j : Job). with_job (world_of c.args.self.now) (job_seen j)) same)
    c.apply.ensures.unchanged
