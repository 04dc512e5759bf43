use Rattle.std.proofs.Common.{[], ◌∷◌, codes, sym, subst, ap, ◌∙◌}
use Rattle.std.proofs.lemmas.Result.{IfOk-weaker, IfErr-weaker}
use Rattle.api_http.specs.Query.{texts, QueryFault}
use Rattle.api_http.specs.Spelled.{GivesName}
use Rattle.api_http.proofs.Parted.{named_fault, others_fault, one_wanted}
use Rattle.api_http.proofs.plan.job_file_plan.Goals as goal

pub returns-in-Ok-clause-ok : goal.returns-in-Ok-clause-ok
returns-in-Ok-clause-ok c =
    let pairs = texts c.args.pairs.now in
    let named_is = ap texts c.deref.ensures.value ∙ c.in_ok-parts.ensures.named in
    let rest_is = ap texts c.deref-in-Ok.ensures.value ∙ c.in_ok-parts.ensures.others in
    IfOk-weaker c.file_plan.result _ _ (λ plan is. is pairs (sym rest_is) (subst (λ l. GivesName l c.in-Ok.file) named_is c.in-Ok.ensures.ok))
    c.file_plan.ensures.ok

pub returns-in-Ok-clause-bad : goal.returns-in-Ok-clause-bad
returns-in-Ok-clause-bad c =
    let pairs = texts c.args.pairs.now in
    let rest_is = ap texts c.deref-in-Ok.ensures.value ∙ c.in_ok-parts.ensures.others in
    IfErr-weaker c.file_plan.result _ _
    (λ e wrong bad. others_fault (codes "name") (codes "tx" ∷ []) (codes "name" ∷ []) [] pairs
    (subst (QueryFault (codes "tx" ∷ []) []) rest_is (wrong bad)))
    c.file_plan.ensures.bad

pub returns-clause-bad : goal.returns-clause-bad
returns-clause-bad c bad =
    let pairs = texts c.args.pairs.now in
    let named_is = ap texts c.deref.ensures.value ∙ c.in_ok-parts.ensures.named in
    named_fault (codes "name") (codes "tx" ∷ []) (codes "name" ∷ []) (codes "name" ∷ []) pairs (one_wanted (codes "name"))
    (subst (QueryFault (codes "name" ∷ []) (codes "name" ∷ [])) named_is (c.in-Err.ensures.bad bad))
