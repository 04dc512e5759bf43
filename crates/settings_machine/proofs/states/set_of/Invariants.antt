use Rattle.std.proofs.Common.{◌≡◌, length}
use Rattle.std.specs.Vec.Iter.{into_iter_items, into_iter_len}
use Rattle.settings_machine.proofs.Naming.{HasAndAwaits}
use Rattle.settings_machine.proofs.states.set_of.Given as goal

-- The names so far are in the set, and the others are still to come.
abbrev pub invariant-loop-name : goal.invariant-loop-name
invariant-loop-name l = record {
  can_next : (goal.iterator-loop-name).can_next l.name-iterator;
  is_finite : (goal.iterator-loop-name).is_finite l.name-iterator;
  names : HasAndAwaits l.fn.names.items l.set (into_iter_items l.name-iterator);
  left : length (into_iter_items l.name-iterator) ≡ into_iter_len l.name-iterator;
}
