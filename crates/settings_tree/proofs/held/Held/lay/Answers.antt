use Rattle.settings_tree.specs.Rooms.{held_of}
use Rattle.settings_tree.proofs.HeldRules.{content_after, pending_after}
use Rattle.settings_tree.proofs.held.Held.lay.Goals as goal

pub put_parts-requires-clause-content : goal.put_parts-requires-clause-content
put_parts-requires-clause-content c = content_after c.lay-laid.result c.args.self.now (held_of c.take_parts-parts.result) (held_of c.lay-laid.new.self)
    c.args.change c.into_entries-entries.result.items c.take_parts-parts.ensures.parts c.into_entries-entries.ensures.entries
    c.lay-laid.ensures.ok c.lay-laid.ensures.err c.take_parts-parts.ensures.content c.take_parts-parts.ensures.pending c.requires.rule
    c.into_entries-entries.ensures.names c.requires.weak c.requires.told

pub put_parts-requires-clause-pending : goal.put_parts-requires-clause-pending
put_parts-requires-clause-pending c = pending_after c.lay-laid.result c.args.self.now (held_of c.take_parts-parts.result) (held_of c.lay-laid.new.self)
    c.args.change c.into_entries-entries.result.items c.take_parts-parts.ensures.parts c.into_entries-entries.ensures.entries
    c.lay-laid.ensures.ok c.lay-laid.ensures.err c.take_parts-parts.ensures.content c.take_parts-parts.ensures.pending c.requires.rule
