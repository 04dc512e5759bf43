-- What methods and targets come to.
use Rattle.std.proofs.Common.{◌≡◌, ◌==◌, ℕ, List, true, false, Bool, Option, Some, None, sym, subst, ap, ◌∙◌, IsTrue, codes, arith}
use Rattle.std.specs.List.{after_first}
use Rattle.api_http.specs.declared.plan.Plan.{Plan}
use Rattle.api_http.specs.declared.refusal.Refusal.TheVariants.{NoPath, Method}
use Rattle.api_http.specs.declared.route.Route.{Route}
use Rattle.api_http.specs.declared.verdict.Aim.{Aim}
use Rattle.api_http.specs.declared.verdict.Aim.TheVariants.{Planned, Refused}
use Rattle.api_http.specs.Fields.{has_field}
use Rattle.api_http.specs.Query.{query_pairs, HasQueryFault}
use Rattle.api_http.specs.Requests.{Told, path_of}
use Rattle.api_http.specs.Routes.{has_path, route_of}
use Rattle.api_http.specs.Plans.{AimsAt, IsPlan, IsPlanned, IsPlanOrFault, Tells, planned_verdict, IsSoundLength}
use Rattle.api_http.proofs.Firsts.{first_no_path, first_no_method, first_query, first_coded, first_long, none_shown}
use Rattle.api_http.proofs.Sound.{plan_sound}

-- a path that is in no row
pub no_such_path : (t : Told) (path : List ℕ) → path ≡ path_of t → has_path path ≡ false → AimsAt t (Refused NoPath)
no_such_path t path same none sound = first_no_path t sound (ap has_path (sym same) ∙ none)

-- the query of a known path and method
pub aimed : (t : Told) (r : Route) (path query : List ℕ) (aim : Aim) → path ≡ path_of t → query ≡ after_first (λ b. b == 63) t.target → IsTrue (has_path path)
    → route_of path t.method ≡ Some r → IsPlanOrFault r query aim → AimsAt t aim
aimed t r path query (Planned plan) same behind known is plan_is = record {
  known = ap has_path (sym same) ∙ known;
  route = r;
  route_is = ap (λ p. route_of p t.method) (sym same) ∙ is;
  plan_is = subst (λ q. IsPlan r (query_pairs q) plan) behind plan_is;
}
aimed t r path query (Refused x) same behind known is (x_is, fault) =
    λ sound. rw x_is (first_query t sound (ap has_path (sym same) ∙ known) r (ap (λ p. route_of p t.method) (sym same) ∙ is)
    (subst (λ q. HasQueryFault r (query_pairs q)) behind fault))

-- a known path without the method
pub unaimed : (t : Told) (path known : List ℕ) (aim : Aim) → path ≡ path_of t → known ≡ path → IsTrue (has_path path) → route_of path t.method ≡ None
    → aim ≡ Refused (Method known) → AimsAt t aim
unaimed t path known aim same named there none is =
    rw (is, named ∙ same) (λ sound. first_no_method t sound (ap has_path (sym same) ∙ there) (ap (λ p. route_of p t.method) (sym same) ∙ none))

-- what a plan comes to by the fields
pub planned_tells : (t : Told) (plan : Plan) (size : Option ℕ) (coded : Bool) → IsPlanned t plan → IsSoundLength t.fields size
    → coded ≡ has_field (codes "Transfer-Encoding") t.fields → Tells t (planned_verdict plan size coded)
planned_tells t plan size true p sound coded = first_coded t sound.0 p.known p.route p.route_is (plan_sound _ p.route plan p.plan_is) (sym coded)
planned_tells t plan None false p sound coded = first_long t sound.0 p.known p.route p.route_is (plan_sound _ p.route plan p.plan_is) (sym coded) sound.1
planned_tells t plan (Some n) false p sound coded = (
  none_shown t sound.0 p.known p.route p.route_is (plan_sound _ p.route plan p.plan_is) (sym coded) (omega (arith, sound.1.0, sound.1.1)),
  sound.1.0,
  p,
)
