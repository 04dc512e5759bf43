-- For private clauses: what a head tells of a request before its body is read.
use Rattle.std.specs.Prelude.{◌≡◌, ◌≤◌, ◌<◌, ◌+◌, ◌⊎◌, ℕ, Bool, true, false, List, length, take, Option, Some, None, MatchOption, Err, IsTrue}
use Rattle.api_http.specs.declared.plan.Plan.{Plan}
use Rattle.api_http.specs.declared.plan.Plan.TheVariants as plan
use Rattle.api_http.specs.declared.route.Route.{Route}
use Rattle.api_http.specs.declared.route.Route.TheVariants as route
use Rattle.json_trees.specs.Tree.{pending_leaf, flattened}
use Rattle.json_trees.specs.declared.tree_error.TreeError.{TreeError}
use Rattle.settings_tree.specs.Content.{settings_key}
use Rattle.api_http.specs.declared.reading.Reading.{Reading}
use Rattle.api_http.specs.declared.reading.Reading.TheVariants as reading
use Rattle.api_http.specs.declared.refusal.Refusal.TheVariants as refusal
use Rattle.api_http.specs.declared.verdict.Verdict.{Verdict}
use Rattle.api_http.specs.declared.verdict.Verdict.TheVariants as verdict
use Rattle.api_http.specs.declared.verdict.Aim.{Aim}
use Rattle.api_http.specs.declared.verdict.Aim.TheVariants as aim
use Rattle.api_http.specs.Fields.{Field, body_length, has_bad_length}
use Rattle.api_http.specs.Query.{Pair, query_pairs, HasQueryFault}
use Rattle.api_http.specs.Requests.{Told, pairs_of, path_of, route_told, ShowsFirst, IsClean}
use Rattle.api_http.specs.Routes.{has_path, has_tree}
use Rattle.settings_machine.specs.Requests as machine
use Rattle.settings_machine.specs.Asked.{request_of}
use Rattle.api_http.specs.Spelled.{NamesTx, NamesGuard, Spells}

-- The plan is what the query of a route spells, whatever the body is, or what it says of a patch or of what is set at once.
abbrev pub IsPlan : Route → List Pair → Plan → Type 0
IsPlan r pairs (plan.Ready request) = (body : List ℕ) → Spells pairs body r (request_of request)
IsPlan r pairs (plan.Patch tx) = (r ≡ route.Patch) × NamesTx pairs tx
IsPlan r pairs (plan.Set guard) = (r ≡ route.Set) × NamesGuard pairs guard

-- The plan is that of the method and the target.
pub record IsPlanned (t : Told) (plan : Plan) : Type 0 where
  pub known : has_path (path_of t) ≡ true
  pub route : Route
  pub route_is : route_told t ≡ Some route
  pub plan_is : IsPlan route (pairs_of t) plan

-- The route takes no query.
abbrev pub is_bare : Route → Bool
is_bare route.Root = true
is_bare route.OsNames = true
is_bare route.TxList = true
is_bare route.JobNow = true
is_bare route.Store = true
is_bare route.Verify = true
is_bare _ = false

-- The route takes the name of a transaction and no body.
abbrev pub takes_tx : Route → Bool
takes_tx route.Pending = true
takes_tx route.DropTx = true
takes_tx _ = false

-- The route commits a transaction, and takes a check.
abbrev pub takes_check : Route → Bool
takes_check route.Commit = true
takes_check route.CommitAndApply = true
takes_check _ = false

-- What the method and the target of a head with no bad length aim at: a plan, or the first refusal that they show.
abbrev pub AimsAt : Told → Aim → Type 0
AimsAt t (aim.Planned plan) = IsPlanned t plan
AimsAt t (aim.Refused r) = has_bad_length t.fields ≡ false → ShowsFirst t r

-- What a whole head tells: a plan and the length of the body, where it is clean, or else the first refusal.
abbrev pub Tells : Told → Verdict → Type 0
Tells t (verdict.Planned plan length) = IsClean t × (length ≡ body_length t.fields) × IsPlanned t plan
Tells t (verdict.Refused r) = ShowsFirst t r

-- There is no tree of settings in the bytes.
abbrev pub IsNoTree : List ℕ → Type 0
IsNoTree body = (e : TreeError) × (flattened pending_leaf settings_key body ≡ Err e)

-- The whole request is there, and is this one of the machine.
pub record IsAsked (t : Told) (rest : List ℕ) (q : machine.Request) : Type 0 where
  pub clean : IsClean t
  pub body : body_length t.fields ≤ length rest
  pub route : Route
  pub route_is : route_told t ≡ Some route
  pub spells : Spells (pairs_of t) (take (body_length t.fields) rest) route q

-- The body of a request whose body is to be a tree is refused.
pub record IsBodyRefused (t : Told) (rest : List ℕ) : Type 0 where
  pub clean : IsClean t
  pub body : body_length t.fields ≤ length rest
  pub route : Route
  pub route_is : route_told t ≡ Some route
  pub treed : IsTrue (has_tree route)
  pub no_tree : IsNoTree (take (body_length t.fields) rest)

-- What a whole head of this size and the bytes after it read as.
abbrev pub ReadsAs : Told → List ℕ → ℕ → Reading → Type 0
ReadsAs t rest size (reading.Whole request n) = IsAsked t rest (request_of request) × (n ≡ size + body_length t.fields)
ReadsAs t rest size reading.NotYet = IsClean t × (length rest < body_length t.fields)
ReadsAs t rest size (reading.Refused r) = ShowsFirst t r ⊎ ((r ≡ refusal.Body) × IsBodyRefused t rest)

-- The query of a route is this plan, or is at fault.
abbrev pub IsPlanOrFault : Route → List ℕ → Aim → Type 0
IsPlanOrFault r query (aim.Planned plan) = IsPlan r (query_pairs query) plan
IsPlanOrFault r query (aim.Refused x) = (x ≡ refusal.Query) × HasQueryFault r (query_pairs query)

-- What a plan comes to by the fields of its head; the length is none where it is over the limit.
abbrev pub planned_verdict : Plan → Option ℕ → Bool → Verdict
planned_verdict plan length true = verdict.Refused refusal.Length
planned_verdict plan None false = verdict.Refused refusal.BodyTooLong
planned_verdict plan (Some length) false = verdict.Planned plan length

-- The length of the body is not bad; it is this, or it is over the limit.
abbrev pub IsSoundLength : List Field → Option ℕ → Type 0
IsSoundLength fields size = (has_bad_length fields ≡ false) × MatchOption size (1048576 < body_length fields) (λ n. (n ≡ body_length fields) × (n ≤ 1048576))
