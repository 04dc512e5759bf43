use Rattle.std.proofs.Common.{arith, rules, ◌≡◌, ◌<◌, List, Some, [], ◌∷◌, ◌++◌, length, slice_get, refl, sym, ap, ◌∙◌, Bool}
use Rattle.std.proofs.lemmas.Option.{slice_get_read}
use Rattle.settings_tree.specs.Rooms.{held_of, all_closed}
use Rattle.settings_tree.proofs.RoomsUndone.{all_closed_last, before_last}
use Rattle.settings_tree.proofs.parts.Parts.close_all.Goals as goal

pub loop-fresh-preserved : goal.loop-fresh-preserved
loop-fresh-preserved c =
    let rest : c.loop-fresh.made.items ≡ c.pop.new.self.items ++ c.in-Some.fresh ∷ [] = search rules in
    let low : length c.pop.new.self.items < length c.args.entries.now =
    before_last c.pop.new.self.items c.loop-fresh.made.items c.in-Some.fresh _ rest c.loop-fresh.invariant.0 in
    let at : slice_get c.args.entries.now (length c.pop.new.self.items) ≡ Some c.index-entries-len.result =
    slice_get_read _ _ (length c.pop.new.self.items) c.index-entries-len.result refl low (search rules) in (
      omega arith,
      ap (all_closed c.pop.new.self.items c.args.entries.now) c.close_if.ensures
          ∙ sym (all_closed_last c.pop.new.self.items c.args.entries.now (held_of c.loop-fresh.self) c.in-Some.fresh c.index-entries-len.result at)
          ∙ ap (λ (bs : List Bool). all_closed bs c.args.entries.now (held_of c.loop-fresh.self)) (sym rest) ∙ c.loop-fresh.invariant.1,
    )
