use Rattle.core_commands.proofs.Told.{settings_last, job_last}
use Rattle.core_commands.proofs.telling.last_line.Goals as goal

pub returns-in-Settings-clause-ok : goal.returns-in-Settings-clause-ok
returns-in-Settings-clause-ok c = rw c.in-Settings.is (settings_last c.args.held.now c.settings_line.result c.settings_line.ensures.ok)

pub returns-in-Job-clause-ok : goal.returns-in-Job-clause-ok
returns-in-Job-clause-ok c = rw c.in-Job.is (job_last c.args.held.now c.idle_line.result c.idle_line.ensures.ok)
