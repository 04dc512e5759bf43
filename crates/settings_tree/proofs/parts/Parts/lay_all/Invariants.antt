use Rattle.std.proofs.Common.{◌≡◌, IsTrue, length}
use Rattle.std.specs.Vec.Iter.{into_iter_items, into_iter_len}
use Rattle.settings_tree.specs.Laid.{laid}
use Rattle.settings_tree.specs.Rooms.{held_of, has_rooms}
use Rattle.settings_tree.proofs.parts.Parts.lay_all.Given as goal

abbrev pub invariant-loop-entry : goal.invariant-loop-entry
invariant-loop-entry l = record {
  can_next : (goal.iterator-loop-entry).can_next l.entry-iterator;
  is_finite : (goal.iterator-loop-entry).is_finite l.entry-iterator;
  rooms : IsTrue (has_rooms (held_of l.self) (into_iter_items l.entry-iterator));
  laid : laid (held_of l.self) (into_iter_items l.entry-iterator) ≡ laid (held_of l.fn.self) l.fn.entries.items;
  left : length (into_iter_items l.entry-iterator) ≡ into_iter_len l.entry-iterator;
}
