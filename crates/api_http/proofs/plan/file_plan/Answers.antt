use Rattle.std.proofs.Common.{sym, subst}
use Rattle.api_http.specs.Spelled.{MayNameTx, at_plan_file}
use Rattle.api_http.proofs.plan.file_plan.Goals as goal

pub returns-in-Ok-clause-ok : goal.returns-in-Ok-clause-ok
returns-in-Ok-clause-ok c pairs is gives body =
    at_plan_file c.args.file c.in-Ok.tx gives (subst (λ l. MayNameTx l c.in-Ok.tx) (sym is) c.in-Ok.ensures.ok)
