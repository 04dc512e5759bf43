use Rattle.std.proofs.Common.{◌++◌, ◌∷◌, [], string_bytes, rules, ap}
use Rattle.toml.specs.View.{view, members_view}
use Rattle.user_data.specs.Pairs.{value_pairs}
use Rattle.user_data.proofs.Gathering.{grown, all_rise, names_rise}
use Rattle.user_data.proofs.walk.+walk.Goals as goal

pub push_members-loop-name-preserved : goal.push_members-loop-name-preserved
push_members-loop-name-preserved t c =
    grown c.args.place.now.key _ _ c.as_str.result.now (string_bytes c.in-Some.name.now) (view c.in-Some.value.now) (members_view c.next.new.self) _ _
    c.loop-name.invariant
    (ap members_view c.in-Some.ensures.steps) c.as_str.ensures.value c.push_entry.new.pairs.items c.in_ok-push_entry.ensures.ok c.in_ok-push_entry.ensures.rise

pub push_members-returns-clause-rise : goal.push_members-returns-clause-rise
push_members-returns-clause-rise t c = (
  names_rise c.args.members.now.entries c.iter-name-items.ensures.ordered,
  all_rise _ _ _ _ _ c.loop-name.invariant
      (ap members_view c.in-None.ensures.steps.0),
)

pub push_entry-returns-in_err-place-clause-refused : goal.push_entry-returns-in_err-place-clause-refused
push_entry-returns-in_err-place-clause-refused t c =
    let refused = c.in_err-place.ensures.refused (value_pairs (c.args.place.now.key ++ c.args.name.now ∷ []) (view c.args.value.now)) in
    search (rules, refused)
