use Rattle.std.proofs.Common.{Option, subst, sym}
use Rattle.settings_machine.specs.declared.refusal.Refusal.{Refusal}
use Rattle.settings_machine.specs.Requests as machine
use Rattle.machine_answers.specs.declared.answer.Answer.{Answer}
use Rattle.api_core.specs.Plans.{Plans}
use Rattle.api_core.proofs.Guarded.{Comes, refuses, both_comes}
use Rattle.api_core.proofs.serving.Core.plan_guarded_commit_and_apply.Goals as goal

pub returns-in-Some-clause-planned : goal.returns-in-Some-clause-planned
returns-in-Some-clause-planned c =
    let core = c.args.self.now in
    let p = c.without_effect in
    subst (λ (a : Answer). Plans core (machine.Guarded (machine.CommitAndApply c.args.tx.now)) a p.result.effect) (sym p.ensures.answer)
    (refuses core (machine.CommitAndApply c.args.tx.now) c.in-Some.refusal (subst (λ (o : Option Refusal). Comes core (machine.CommitAndApply c.args.tx.now) o)
    c.in-Some.is
    (both_comes core c.args.tx.now c.in_ok-refusal.field-0 c.in_ok-refusal.ensures.there c.in_ok-refusal.ensures.missing))
    p.result.effect p.ensures.change p.ensures.next)
