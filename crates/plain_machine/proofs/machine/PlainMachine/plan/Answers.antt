use Rattle.std.proofs.Common.{◌≡◌, refl, sym, ◌∙◌}
use Rattle.settings_machine.specs.PlanSeen.{planned_of}
use Rattle.plain_machine.proofs.PlansMade.{asked_plan, asked_plan_refused}
use Rattle.plain_machine.proofs.machine.PlainMachine.plan.Goals as goal

pub returns-in-Ok : goal.returns-in-Ok
returns-in-Ok c =
    let after = c.in-Ok.field-0 in
    let owed : after.held.owed ≡ c.in_ok-copy-in-Ok.field-0 = cc c.in_ok-copy-in-Ok.ensures in
    asked_plan c.args.image.now c.args.self.now c.args.tx.now after (planned_of c.in_ok-plan-in-Ok.plan) (sym c.in-Ok.is ∙ c.in_ok-held.ensures)
    (λ I holds. c.in_ok-plan-in-Ok.ensures.is I holds.templates_are holds.os_is holds.manifest_is after.held (sym c.of.ensures) owed)

pub returns : goal.returns
returns c = asked_plan_refused c.args.image.now c.args.self.now c.args.tx.now c.in-Err.refusal (sym c.in-Err.is ∙ c.in_ok-held.ensures)
