use Rattle.std.proofs.Common.{refl}
use Rattle.std.proofs.lemmas.Result.{IfOk-weaker}
use Rattle.api_core.proofs.PlanParts.{same_plan, plan_of_keys}
use Rattle.api_core.proofs.serving.Core.committed_plan.Goals as goal

pub returns-clause-reads : goal.returns-clause-reads
returns-clause-reads c =
    let core = c.args.self.now in
    IfOk-weaker c.plan_over.result _ _
    (λ answer plans. plan_of_keys core c.args.tx.now c.in-Some.keys.now c.in_ok-changed.changed c.in_ok-owed.owed answer c.in-Some.ensures.keys
    c.in_ok-changed.ensures c.in_ok-owed.ensures (same_plan core _ _ _ _ _ _ answer c.over-live.ensures refl refl plans))
    c.plan_over.ensures.plans
