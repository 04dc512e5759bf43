use Rattle.std.proofs.Common.{sym, ◌∙◌}
use Rattle.settings_machine.proofs.Refusals.{nothing_wanted}
use Rattle.api_core.proofs.Layings.{may_patch}
use Rattle.api_core.proofs.serving.Core.plan_patch.Goals as goal

pub returns-in_ok-patch-in-None-clause-may : goal.returns-in_ok-patch-in-None-clause-may
returns-in_ok-patch-in-None-clause-may c =
    let p = c.in_ok-patch-in-None.ensures {u = tt} in
    may_patch c.args.self.now.image.model.types c.args.self.now.held c.requires.sound _ p.weak p.told c.args.tx.now c.args.pairs.now
    (nothing_wanted _ (sym c.in-None.is ∙ c.in_ok-refusal.ensures)) p.laid p.rule
