use Rattle.api_http.specs.Spelled.{at_root, at_os, at_list, at_job, at_store, at_verify}
use Rattle.api_http.proofs.Planned.{last_bare}
use Rattle.api_http.proofs.plan.bare_request.Goals as goal

pub returns-in-Root : goal.returns-in-Root
returns-in-Root c pairs body none = rw c.in-Root.is (at_root none)

pub returns-in-OsNames : goal.returns-in-OsNames
returns-in-OsNames c pairs body none = rw c.in-OsNames.is (at_os none)

pub returns-in-TxList : goal.returns-in-TxList
returns-in-TxList c pairs body none = rw c.in-TxList.is (at_list none)

pub returns-in-JobNow : goal.returns-in-JobNow
returns-in-JobNow c pairs body none = rw c.in-JobNow.is (at_job none)

pub returns-in-Store : goal.returns-in-Store
returns-in-Store c pairs body none = rw c.in-Store.is (at_store none)

pub returns-in_default : goal.returns-in_default
returns-in_default c pairs body none = rw (last_bare c.args.route c.requires c.in_default.not-Root c.in_default.not-OsNames c.in_default.not-TxList
    c.in_default.not-JobNow c.in_default.not-Store) (at_verify none)
