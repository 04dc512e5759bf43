use Rattle.api_http.proofs.plan.apply_plan.Goals as goal

pub returns-in-Ok-clause-ok : goal.returns-in-Ok-clause-ok
returns-in-Ok-clause-ok c body = c.apply_request.ensures _ body c.in-Ok.ensures.ok
