use Rattle.api_core.proofs.Layings.{may_set}
use Rattle.api_core.proofs.serving.Core.plan_taken.Goals as goal

pub returns-clause-may : goal.returns-clause-may
returns-clause-may c =
    let p = c.in_ok-keys.ensures in
    may_set c.args.self.now.image.model.types c.args.self.now.held c.requires.sound c.in_ok-keys.field-0.change p.weak p.told c.args.pairs.now c.requires.taken
    p.laid p.rule
