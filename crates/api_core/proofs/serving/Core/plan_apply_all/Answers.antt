use Rattle.std.proofs.Common.{refl}
use Rattle.api_core.proofs.Layings.{may_owe}
use Rattle.api_core.proofs.serving.Core.plan_apply_all.Goals as goal

pub returns-clause-may : goal.returns-clause-may
returns-clause-may c =
    let core = c.args.self.now in
    may_owe core.image.model.types core.held c.requires.sound core.held.owed refl c.in_ok-all_owed.field-0 c.in_ok-all_owed.ensures
