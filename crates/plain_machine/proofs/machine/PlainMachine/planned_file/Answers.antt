use Rattle.std.proofs.Common.{◌≡◌, ℕ, List, is_some, sym, ◌∙◌, ap, subst}
use Rattle.std.specs.FinMap.{get}
use Rattle.std.proofs.lemmas.Result.{IfOk-weaker}
use Rattle.settings_tree.specs.Content.{Contents}
use Rattle.settings_machine.specs.Requests.{PlanFile, Refused}
use Rattle.settings_machine.specs.declared.refusal.Refusal.TheVariants.{NoName}
use Rattle.plain_machine.specs.Changes.{IsFileOver}
use Rattle.plain_machine.specs.Steps.{IsAsked}
use Rattle.plain_machine.proofs.PlansMade.{found_is, none_there, asked_no_file, asked_file, asked_file_refused}
use Rattle.plain_machine.proofs.machine.PlainMachine.planned_file.Goals as goal

pub returns-then-is_none : goal.returns-then-is_none
returns-then-is_none c =
    let files = c.args.image.now.manifest.files in
    let same : is_some (get files c.args.file.now) ≡ is_some c.file.result =
    sym (ap is_some (c.file.ensures ∙ ap (get files) (c.as_bytes.ensures.value ∙ c.as_str.ensures))) ∙ found_is c.file.result in
    subst (λ (f : List ℕ). IsAsked c.args.image.now c.args.self.now (PlanFile c.args.file.now c.args.tx.now) c.args.self.now (Refused (NoName f)))
    (sym c.in_ok-copy.ensures)
    (asked_no_file c.args.image.now c.args.self.now c.args.tx.now c.args.file.now (none_there (get files c.args.file.now) (same ∙ c.if-is_none.ensures)))

pub returns-in-Ok : goal.returns-in-Ok
returns-in-Ok c =
    let files = c.args.image.now.manifest.files in
    let same : is_some (get files c.args.file.now) ≡ is_some c.file.result =
    sym (ap is_some (c.file.ensures ∙ ap (get files) (c.as_bytes.ensures.value ∙ c.as_str.ensures))) ∙ found_is c.file.result in
    IfOk-weaker c.file_over.result _ _ (λ told over. asked_file c.args.image.now c.args.self.now c.args.tx.now c.args.file.now (same ∙ c.if-is_none.ensures)
    c.in-Ok.after told (sym c.in-Ok.is ∙ c.in_ok-after.ensures)
    (subst (λ (live : Contents). IsFileOver c.args.image.now live c.args.file.now told) c.of.ensures over)) c.file_over.ensures

pub returns-in-Err : goal.returns-in-Err
returns-in-Err c =
    let files = c.args.image.now.manifest.files in
    let same : is_some (get files c.args.file.now) ≡ is_some c.file.result =
    sym (ap is_some (c.file.ensures ∙ ap (get files) (c.as_bytes.ensures.value ∙ c.as_str.ensures))) ∙ found_is c.file.result in
    asked_file_refused c.args.image.now c.args.self.now c.args.tx.now c.args.file.now (same ∙ c.if-is_none.ensures) c.in-Err.refusal
    (sym c.in-Err.is ∙ c.in_ok-after.ensures)
