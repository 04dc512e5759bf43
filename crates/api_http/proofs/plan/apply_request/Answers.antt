use Rattle.std.proofs.Common.{subst}
use Rattle.api_http.specs.Spelled.{MayGiveAll, at_apply, at_apply_all}
use Rattle.api_http.proofs.plan.apply_request.Goals as goal

pub returns-then-all : goal.returns-then-all
returns-then-all c pairs body gives = at_apply_all (subst (MayGiveAll pairs) c.if-all.true gives)

pub returns-else-all : goal.returns-else-all
returns-else-all c pairs body gives = at_apply (subst (MayGiveAll pairs) c.if-all.false gives)
