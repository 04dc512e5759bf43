use Rattle.std.proofs.Common.{◌≡◌, subst, ap}
use Rattle.std.proofs.lemmas.Result.{IfOk-weaker}
use Rattle.api_http.specs.declared.route.Route.TheVariants.{Patch, Set}
use Rattle.api_http.specs.Spelled.{NamesTx, NamesGuard}
use Rattle.api_http.specs.Plans.{IsPlan}
use Rattle.api_http.specs.Routes.{has_tree}
use Rattle.api_http.proofs.Bodies.{patch_spelled, set_spelled}
use Rattle.api_http.proofs.Given.{if_some, if_none}
use Rattle.api_http.proofs.body.request_with.Goals as goal

pub returns-in-Patch-clause-some : goal.returns-in-Patch-clause-some
returns-in-Patch-clause-some c =
    IfOk-weaker c.patch_of.result _ _
    (λ o some. if_some o _ _
    (λ request is r pairs plan.
    let p : (r ≡ Patch) × NamesTx pairs c.in-Patch.tx = subst (IsPlan r pairs) c.in-Patch.is plan in
    rw p.0 (patch_spelled pairs c.in-Patch.tx c.args.body.now _ p.1 is))
    some)
    c.patch_of.ensures.some

pub returns-in-Patch-clause-none : goal.returns-in-Patch-clause-none
returns-in-Patch-clause-none c =
    IfOk-weaker c.patch_of.result _ _
    (λ o none. if_none o _ _
    (λ wrong r pairs plan.
    let p : (r ≡ Patch) × NamesTx pairs c.in-Patch.tx = subst (IsPlan r pairs) c.in-Patch.is plan in
    (ap has_tree p.0, wrong))
    none)
    c.patch_of.ensures.none

pub returns-in-Set-clause-some : goal.returns-in-Set-clause-some
returns-in-Set-clause-some c =
    IfOk-weaker c.set_of.result _ _
    (λ o some. if_some o _ _
    (λ request is r pairs plan.
    let p : (r ≡ Set) × NamesGuard pairs c.in-Set.guard = subst (IsPlan r pairs) c.in-Set.is plan in
    rw p.0 (set_spelled pairs c.in-Set.guard c.args.body.now _ p.1 is))
    some)
    c.set_of.ensures.some

pub returns-in-Set-clause-none : goal.returns-in-Set-clause-none
returns-in-Set-clause-none c =
    IfOk-weaker c.set_of.result _ _
    (λ o none. if_none o _ _
    (λ wrong r pairs plan.
    let p : (r ≡ Set) × NamesGuard pairs c.in-Set.guard = subst (IsPlan r pairs) c.in-Set.is plan in
    (ap has_tree p.0, wrong))
    none)
    c.set_of.ensures.none
