use Rattle.api_http.specs.Spelled.{at_plan}
use Rattle.api_http.proofs.plan.job_plan.Goals as goal

pub returns-in-Ok-clause-ok : goal.returns-in-Ok-clause-ok
returns-in-Ok-clause-ok c body = at_plan _ c.in-Ok.ensures.ok
