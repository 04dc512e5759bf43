use Rattle.api_core.proofs.Layings.{may_commit}
use Rattle.api_core.proofs.serving.Core.plan_commit_and_apply.Goals as goal

pub returns-in_ok-next-in-Ok-clause-may : goal.returns-in_ok-next-in-Ok-clause-may
returns-in_ok-next-in-Ok-clause-may c =
    let p = c.in-Ok.ensures in
    may_commit c.args.self.now.image.model.types c.args.self.now.held c.requires.sound c.in-Ok.field-0.change p.weak p.told c.args.tx.now p.laid p.rule
