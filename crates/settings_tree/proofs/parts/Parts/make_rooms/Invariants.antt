use Rattle.std.proofs.Common.{◌≡◌, take}
use Rattle.settings_tree.specs.Rooms.{held_of, freshes, all_roomed}
use Rattle.settings_tree.proofs.parts.Parts.make_rooms.Given as goal

abbrev pub invariant-loop-entry : goal.invariant-loop-entry
invariant-loop-entry l = (held_of l.self ≡ all_roomed (held_of l.fn.self) (take l.entry-index l.entries))
    × (l.made.items ≡ freshes (held_of l.fn.self) (take l.entry-index l.entries))
