use Rattle.std.proofs.Common.{ℕ, List, Option, Result, Err, sym, ap, subst}
use Rattle.pending_tx.specs.declared.answers.CommitError.{CommitError}
use Rattle.settings_machine.specs.Requests.{CommitAndApply, Guarded, Refused}
use Rattle.settings_machine.specs.World.{Key}
use Rattle.settings_machine.specs.declared.refusal.Refusal.{Refusal}
use Rattle.settings_machine.specs.declared.refusal.Refusal.TheVariants.{NoPending}
use Rattle.plain_machine.specs.Changes.{IsGuardedBy}
use Rattle.plain_machine.specs.Steps.{IsAsked}
use Rattle.plain_machine.proofs.ChangesMade.{asked_guarded, asked_stopped}
use Rattle.plain_machine.proofs.machine.PlainMachine.guarded_commit_and_apply.Goals as goal

pub returns-in-Some-clause-asked : goal.returns-in-Some-clause-asked
returns-in-Some-clause-asked c =
    let guarded : Option Refusal → Type 0 = IsGuardedBy c.args.image.now c.args.self.now (CommitAndApply c.args.tx.now) in
    asked_stopped c.args.image.now c.args.self.now (CommitAndApply c.args.tx.now) c.in-Some.refusal
    (subst guarded c.in-Some.is c.in_ok-refusal.ensures.both)

pub returns-in-Ok-clause-asked : goal.returns-in-Ok-clause-asked
returns-in-Ok-clause-asked c =
    let guarded : Option Refusal → Type 0 = IsGuardedBy c.args.image.now c.args.self.now (CommitAndApply c.args.tx.now) in
    asked_guarded c.args.image.now c.args.self.now (CommitAndApply c.args.tx.now)
    (subst guarded c.in_default.is c.in_ok-refusal.ensures.both) _ _ c.in-Ok.ensures.asked

pub returns-in_ok-copy-in-Err-NoPending-clause-asked : goal.returns-in_ok-copy-in-Err-NoPending-clause-asked
returns-in_ok-copy-in-Err-NoPending-clause-asked c =
    let err : CommitError → Result (List Key) CommitError = λ e. Err e in
    let guarded : Option Refusal → Type 0 = IsGuardedBy c.args.image.now c.args.self.now (CommitAndApply c.args.tx.now) in
    let missing = c.in-Err-NoPending.ensures.missing (ap err c.in-Err-NoPending.field-0-is) in
    subst (λ (tx : List ℕ). IsAsked c.args.image.now c.args.self.now (Guarded (CommitAndApply c.args.tx.now)) c.commit_and_apply.new.self
    (Refused (NoPending tx)))
    (sym c.in_ok-copy-in-Err-NoPending.ensures)
    (asked_guarded c.args.image.now c.args.self.now (CommitAndApply c.args.tx.now)
    (subst guarded c.in_default.is c.in_ok-refusal.ensures.both) _ _ missing)
