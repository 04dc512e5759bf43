use Rattle.std.proofs.Common.{◌++◌, sym, ap, ◌∙◌}
use Rattle.settings_maps.proofs.CopiedMaps.{copied_more}
use Rattle.settings_maps.proofs.tree_maps.copy_map.Goals as goal

pub loop-key-preserved : goal.loop-key-preserved
loop-key-preserved g c = copied_more g.met.K.Ord.total c.args.map.now.entries c.loop-key.copies.entries _ c.next.new.self c.in-Some.key.now c.in-Some.value.now
    (sym (ap (λ l. c.loop-key.copies.entries ++ l) c.in-Some.ensures.steps) ∙ c.loop-key.invariant) c.iter-key-items.ensures.ordered c.in_ok-put_copy.ensures
