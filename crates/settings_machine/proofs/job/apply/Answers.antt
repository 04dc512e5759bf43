use Rattle.std.proofs.Common.{sym, ◌∙◌, ap}
use Rattle.settings_machine.specs.JobSeen.{job_seen, work_seen}
use Rattle.settings_machine.proofs.Jobly.{not_running, none_begins, idle_is, again_is, begun_is}
use Rattle.settings_machine.proofs.job.apply.Goals as goal

pub returns-then-owes_none-clause-applied : goal.returns-then-owes_none-clause-applied
returns-then-owes_none-clause-applied c = idle_is c.args.manifest.now c.args.owed.now (job_seen c.args.job.now) (sym c.owes_none.ensures ∙ c.if-owes_none.true)

pub returns-in-Running-clause-applied : goal.returns-in-Running-clause-applied
returns-in-Running-clause-applied c =
    again_is c.args.manifest.now c.args.owed.now (job_seen c.args.job.now) (work_seen c.in-Running.work) (sym c.owes_none.ensures ∙ c.if-owes_none.false)
    (ap job_seen c.in-Running.is)

pub returns-in_err-job-clause-sure : goal.returns-in_err-job-clause-sure
returns-in_err-job-clause-sure c = none_begins c.args.owed.now c.args.job.now (sym c.owes_none.ensures ∙ c.if-owes_none.false) c.in_default.not-Running

pub returns-clause-applied : goal.returns-clause-applied
returns-clause-applied c =
    begun_is c.args.manifest.now c.args.owed.now (job_seen c.args.job.now) (job_seen c.in_ok-job.field-0) (sym c.owes_none.ensures ∙ c.if-owes_none.false)
    (not_running c.args.job.now c.in_default.not-Running) c.in_ok-job.ensures
