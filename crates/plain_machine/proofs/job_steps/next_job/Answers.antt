use Rattle.std.proofs.Common.{Some, sym, ◌∙◌, ap}
use Rattle.settings_machine.specs.World.{Job}
use Rattle.settings_machine.specs.JobSeen.{job_seen}
use Rattle.settings_machine.proofs.Jobly.{not_running}
use Rattle.plain_machine.proofs.JobSteps.{idle_next, none_next, fresh_next}
use Rattle.plain_machine.proofs.job_steps.next_job.Goals as goal

pub returns-then-owes_none : goal.returns-then-owes_none
returns-then-owes_none c = λ I same. idle_next I c.args.owed.now (job_seen c.args.job.now) (sym c.owes_none.ensures ∙ c.if-owes_none.true)

pub returns-in-Running : goal.returns-in-Running
returns-in-Running c = λ I same. none_next I c.args.owed.now c.args.job.now _ (sym c.owes_none.ensures ∙ c.if-owes_none.false) c.in-Running.is

pub returns : goal.returns
returns c = λ I same. fresh_next I c.args.owed.now (job_seen c.args.job.now) (sym c.owes_none.ensures ∙ c.if-owes_none.false)
    (not_running c.args.job.now c.in_default.not-Running) ∙ ap (λ (j : Job). Some j) (c.in_ok-begun.ensures I same)
