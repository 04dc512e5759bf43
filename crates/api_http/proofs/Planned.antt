-- Routes of which several are planned alike.
use Rattle.std.proofs.Common.{◌≡◌, ◌≢◌, List, [], ◌∷◌, IsTrue, codes, refl}
use Rattle.api_http.specs.declared.route.Route.{Route}
use Rattle.api_http.specs.declared.route.Route.TheVariants.{Root, OsNames, Pending, DropTx, TxList, Commit, CommitAndApply, JobNow, Store, Verify}
use Rattle.api_http.specs.Query.{Pair, QueryFault, HasQueryFault}
use Rattle.api_http.specs.Plans.{is_bare, takes_tx, takes_check}

-- the last of the routes without a query
pub last_bare : (r : Route) → IsTrue (is_bare r) → r ≢ Root → r ≢ OsNames → r ≢ TxList → r ≢ JobNow → r ≢ Store → r ≡ Verify
last_bare Verify is a b c d e = refl
last_bare Root is a b c d e = absurd (a refl)
last_bare OsNames is a b c d e = absurd (b refl)
last_bare TxList is a b c d e = absurd (c refl)
last_bare JobNow is a b c d e = absurd (d refl)
last_bare Store is a b c d e = absurd (e refl)
last_bare _ is a b c d e = cc

-- the last of the routes with a transaction and no body
pub last_tx : (r : Route) → IsTrue (takes_tx r) → r ≢ Pending → r ≡ DropTx
last_tx DropTx is a = refl
last_tx Pending is a = absurd (a refl)
last_tx _ is a = cc

-- the last of the routes that commit
pub last_check : (r : Route) → IsTrue (takes_check r) → r ≢ Commit → r ≡ CommitAndApply
last_check CommitAndApply is a = refl
last_check Commit is a = absurd (a refl)
last_check _ is a = cc

-- a fault of a query that is to be empty is one of the route
pub bare_fault : (r : Route) (pairs : List Pair) → IsTrue (is_bare r) → QueryFault [] [] pairs → HasQueryFault r pairs
bare_fault Root pairs is f = f
bare_fault OsNames pairs is f = f
bare_fault TxList pairs is f = f
bare_fault JobNow pairs is f = f
bare_fault Store pairs is f = f
bare_fault Verify pairs is f = f
bare_fault _ pairs is f = cc

-- a fault of a query that may name a transaction is one of the route
pub tx_fault : (r : Route) (pairs : List Pair) → IsTrue (takes_tx r) → QueryFault (codes "tx" ∷ []) [] pairs → HasQueryFault r pairs
tx_fault Pending pairs is f = f
tx_fault DropTx pairs is f = f
tx_fault _ pairs is f = cc

-- a fault of a query that may name a check and a transaction is one of the route
pub check_fault : (r : Route) (pairs : List Pair) → IsTrue (takes_check r) → QueryFault (codes "check" ∷ codes "tx" ∷ []) [] pairs → HasQueryFault r pairs
check_fault Commit pairs is f = f
check_fault CommitAndApply pairs is f = f
check_fault _ pairs is f = cc
