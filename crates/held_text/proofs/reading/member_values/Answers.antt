use Rattle.std.proofs.Common.{◌++◌, sym, ap, map}
use Rattle.serde_json.specs.View.{view, members_view}
use Rattle.held_text.specs.HeldRules.{member_values}
use Rattle.held_text.proofs.Readings.{taken_next, taken_all}
use Rattle.held_text.proofs.reading.member_values.Goals as goal

pub loop-value-init : goal.loop-value-init
loop-value-init c = (
  tt,
  tt,
  rw c.into_iter-value-iterator.ensures.into_iter_gives.0 (ap (λ vs. map view vs ++ member_values (members_view c.args.members.entries))
      (sym c.new-values.ensures.items)),
)

pub loop-value-preserved : goal.loop-value-preserved
loop-value-preserved c = (
  tt,
  tt,
  taken_next _ _ _ c.loop-value.values.items _ _ c.in-Some.value c.loop-value.invariant.2
      (ap members_view c.in-Some.ensures.steps) c.in_ok-push.ensures.items,
)

pub returns-clause-ok : goal.returns-clause-ok
returns-clause-ok c = taken_all (members_view c.args.members.entries) c.loop-value.values.items _ c.loop-value.invariant.2
    (ap members_view c.in-None.ensures.steps.0)
