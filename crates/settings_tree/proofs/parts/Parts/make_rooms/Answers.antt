use Rattle.std.proofs.Common.{arith, rules, ◌≡◌, ◌+◌, ◌++◌, ◌∷◌, [], take, ◌∙◌}
use Rattle.settings_tree.specs.Rooms.{held_of}
use Rattle.settings_tree.proofs.RoomsUndone.{undone_by, few, one_more, take_next}
use Rattle.settings_tree.proofs.parts.Parts.make_rooms.Goals as goal

pub close_all-requires : goal.close_all-requires
close_all-requires c = few (held_of c.args.self.now) _ c.loop-entry.entry-index c.args.entries.now (c.in-Err.ensures.err_note ∙ c.loop-entry.invariant.1)

pub returns-in-Err-clause-err : goal.returns-in-Err-clause-err
returns-in-Err-clause-err c = undone_by (held_of c.args.self.now) (held_of c.make_noted_room-room.new.self) (held_of c.close_all.new.self)
    c.make_noted_room-room.new.made.items c.loop-entry.entry-index c.args.entries.now c.requires.full
    (c.in-Err.ensures.err_note ∙ c.loop-entry.invariant.1) (c.in-Err.ensures.err ∙ c.loop-entry.invariant.0) c.close_all.ensures

pub loop-entry-preserved : goal.loop-entry-preserved
loop-entry-preserved c =
    let next : take (c.loop-entry.entry-index + 1) c.args.entries.now ≡ take c.loop-entry.entry-index c.args.entries.now ++ c.entry-item.result ∷ [] =
    take_next c.args.entries.now c.loop-entry.entry-index (c.loop-entry.entry-index + 1) c.entry-item.result (omega arith) (search rules) (search rules) in
    one_more (held_of c.args.self.now) (held_of c.loop-entry.self) (held_of c.make_noted_room-room.new.self) c.loop-entry.made.items
    c.make_noted_room-room.new.made.items _ _ c.entry-item.result next c.loop-entry.invariant.0 c.loop-entry.invariant.1 c.in_default.ensures.ok
    c.in_default.ensures.note
