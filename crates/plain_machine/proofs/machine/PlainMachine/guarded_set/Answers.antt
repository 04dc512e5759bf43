use Rattle.std.proofs.Common.{Option, subst}
use Rattle.std.proofs.lemmas.Result.{IfOk-weaker}
use Rattle.settings_machine.specs.Requests.{Set}
use Rattle.settings_machine.specs.declared.refusal.Refusal.{Refusal}
use Rattle.plain_machine.specs.Changes.{IsGuardedBy}
use Rattle.plain_machine.proofs.ChangesMade.{asked_guarded, asked_stopped}
use Rattle.plain_machine.proofs.machine.PlainMachine.guarded_set.Goals as goal

pub returns-in-Some-clause-asked : goal.returns-in-Some-clause-asked
returns-in-Some-clause-asked c =
    let guarded : Option Refusal → Type 0 = IsGuardedBy c.args.image.now c.args.self.now (Set c.args.pairs.now) in
    asked_stopped c.args.image.now c.args.self.now (Set c.args.pairs.now) c.in-Some.refusal (subst guarded c.in-Some.is c.in_ok-refusal.ensures)

pub returns-in-None-clause-asked : goal.returns-in-None-clause-asked
returns-in-None-clause-asked c =
    let guarded : Option Refusal → Type 0 = IsGuardedBy c.args.image.now c.args.self.now (Set c.args.pairs.now) in
    IfOk-weaker c.set.result _ _
    (λ keys asked. asked_guarded c.args.image.now c.args.self.now (Set c.args.pairs.now) (subst guarded c.in-None.is c.in_ok-refusal.ensures) _ _ asked)
    c.set.ensures.asked
