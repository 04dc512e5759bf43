use Rattle.api_core.proofs.PlanParts.{reading_planned}
use Rattle.api_core.proofs.serving.Core.plan_reading.Goals as goal

pub returns-clause-planned : goal.returns-clause-planned
returns-clause-planned c =
    let p = c.without_effect in
    λ q reads. reading_planned c.args.self.now q c.args.answer p.result.answer p.result.effect p.ensures.answer p.ensures.change p.ensures.next reads
