use Rattle.api_http.specs.Spelled.{at_pending, at_drop}
use Rattle.api_http.proofs.Planned.{last_tx}
use Rattle.api_http.proofs.plan.tx_request.Goals as goal

pub returns-in-Pending : goal.returns-in-Pending
returns-in-Pending c pairs body names = rw c.in-Pending.is (at_pending _ names)

pub returns-in_default : goal.returns-in_default
returns-in_default c pairs body names = rw (last_tx c.args.route c.requires c.in_default.not-Pending) (at_drop _ names)
