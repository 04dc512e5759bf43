use Rattle.std.proofs.Common.{[], ◌∷◌, codes, sym, subst, ap, ◌∙◌}
use Rattle.std.proofs.lemmas.Result.{IfOk-weaker, IfErr-weaker}
use Rattle.api_http.specs.Query.{texts, QueryFault}
use Rattle.api_http.specs.Spelled.{NamesGuard}
use Rattle.api_http.proofs.Parted.{named_fault, others_fault, none_wanted}
use Rattle.api_http.proofs.Planned.{check_fault}
use Rattle.api_http.proofs.plan.commit_plan.Goals as goal

pub returns-in-Ok-clause-ok : goal.returns-in-Ok-clause-ok
returns-in-Ok-clause-ok c =
    let pairs = texts c.args.pairs.now in
    let named_is = ap texts c.deref.ensures.value ∙ c.in_ok-parts.ensures.named in
    let rest_is = ap texts c.deref-in-Ok.ensures.value ∙ c.in_ok-parts.ensures.others in
    IfOk-weaker c.checked_plan.result _ _ (λ plan is. is pairs (sym rest_is) (subst (λ l. NamesGuard l c.in-Ok.guard) named_is c.in-Ok.ensures.ok))
    c.checked_plan.ensures.ok

pub returns-in-Ok-clause-bad : goal.returns-in-Ok-clause-bad
returns-in-Ok-clause-bad c =
    let pairs = texts c.args.pairs.now in
    let rest_is = ap texts c.deref-in-Ok.ensures.value ∙ c.in_ok-parts.ensures.others in
    IfErr-weaker c.checked_plan.result _ _
    (λ e wrong bad. check_fault c.args.route pairs c.requires
    (others_fault (codes "check") (codes "tx" ∷ []) [] [] pairs (subst (QueryFault (codes "tx" ∷ []) []) rest_is (wrong bad))))
    c.checked_plan.ensures.bad

pub returns-clause-bad : goal.returns-clause-bad
returns-clause-bad c bad =
    let pairs = texts c.args.pairs.now in
    let named_is = ap texts c.deref.ensures.value ∙ c.in_ok-parts.ensures.named in
    check_fault c.args.route pairs c.requires
    (named_fault (codes "check") (codes "tx" ∷ []) [] [] pairs (none_wanted (codes "check"))
    (subst (QueryFault (codes "check" ∷ []) []) named_is c.in-Err.ensures.bad))
