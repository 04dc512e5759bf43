use Rattle.std.proofs.Common.{sym, ◌∙◌, ap}
use Rattle.settings_machine.specs.declared.job.Job.{Job}
use Rattle.settings_machine.specs.JobSeen.{job_seen}
use Rattle.settings_machine.proofs.Jobly.{not_running}
use Rattle.std.proofs.lemmas.Result.{IfOk-weaker}
use Rattle.plain_machine.specs.Jobs.{noted}
use Rattle.plain_machine.proofs.JobSteps.{noted_nothing}
use Rattle.plain_machine.proofs.job_steps.noted.Goals as goal

pub returns-in-Running : goal.returns-in-Running
returns-in-Running c = IfOk-weaker c.joined.result _ _ (λ since is. is ∙ ap (λ (j : Job). noted (job_seen j) c.args.keys.now) (sym c.in-Running.is))
    c.joined.ensures

pub returns-in_default : goal.returns-in_default
returns-in_default c = c.new.ensures ∙ noted_nothing (job_seen c.args.job.now) c.args.keys.now (not_running c.args.job.now c.in_default.not-Running)
