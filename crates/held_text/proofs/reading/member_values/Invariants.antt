use Rattle.std.proofs.Common.{◌≡◌, ◌++◌, map}
use Rattle.serde_json.specs.View.{view, members_view}
use Rattle.held_text.specs.HeldRules.{member_values}
use Rattle.held_text.proofs.reading.member_values.Given as goal

-- The values taken, with those of the members that are left.
abbrev pub invariant-loop-value : goal.invariant-loop-value
invariant-loop-value l =
    (goal.iterator-loop-value).can_next l.value-iterator ×
    (goal.iterator-loop-value).is_finite l.value-iterator ×
    (member_values (members_view l.fn.members.entries) ≡ map view l.values.items ++ member_values (members_view l.value-iterator))
