use Rattle.api_http.specs.Spelled.{at_commit, at_commit_and_apply}
use Rattle.api_http.proofs.Planned.{last_check}
use Rattle.api_http.proofs.plan.commit_request.Goals as goal

pub returns-in-Commit : goal.returns-in-Commit
returns-in-Commit c pairs body names guards = rw c.in-Commit.is (at_commit _ _ names guards)

pub returns-in_default : goal.returns-in_default
returns-in_default c pairs body names guards = rw (last_check c.args.route c.requires c.in_default.not-Commit) (at_commit_and_apply _ _ names guards)
