use Rattle.std.proofs.Common.{ap, subst, Err}
use Rattle.release_file.specs.Chain.{HasNoPlan}
use Rattle.release_file.proofs.Farthest.{handed, steps_pushed, planned}
use Rattle.release_file.proofs.planning.plan.Goals as goal

pub returns-in_err-way-clause-missing : goal.returns-in_err-way-clause-missing
returns-in_err-way-clause-missing c =
    handed c.from_residual.result c.in_err-way.field-0.0 (λ at end. HasNoPlan c.args.release.now.transitions.items c.args.from.now c.args.to.now at end)
    c.from_residual.ensures.1
    (λ at end is. subst (λ ts. HasNoPlan ts c.args.from.now c.args.to.now at end) c.deref.ensures.value (c.in_err-way.ensures.missing at end (ap Err is)))

pub loop-transition-preserved : goal.loop-transition-preserved
loop-transition-preserved c =
    steps_pushed (λ t. t.now) c.is_before-back.result c.deref-transition-items.result.now c.loop-transition.transition-index c.transition-item.result
    c.loop-transition.steps.items c.push.new.self.items c.step_of.result c.loop-transition-test.true c.transition-item.is c.loop-transition.invariant
    c.in_ok-push.ensures.items c.step_of.ensures

pub returns-clause-ok : goal.returns-clause-ok
returns-clause-ok c =
    planned (λ t. t.now) c.deref.result.now c.args.release.now.transitions.items c.args.from.now c.args.to.now c.deref-transition-items.result.now
    c.in_ok-way.way.items c.loop-transition.transition-index c.is_before-back.result c.loop-transition.steps.items c.deref.ensures.value
    c.deref-transition-items.ensures.value c.in_ok-way.ensures.ok c.is_before-back.ensures c.loop-transition-test.false c.loop-transition.invariant
