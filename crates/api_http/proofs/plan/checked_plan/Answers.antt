use Rattle.std.proofs.Common.{sym, subst}
use Rattle.api_http.specs.Spelled.{NamesTx}
use Rattle.api_http.proofs.plan.checked_plan.Goals as goal

pub returns-in-Ok-clause-ok : goal.returns-in-Ok-clause-ok
returns-in-Ok-clause-ok c pairs is guards body =
    c.commit_request.ensures pairs body (subst (λ l. NamesTx l c.in-Ok.tx) (sym is) c.in-Ok.ensures.ok) guards
