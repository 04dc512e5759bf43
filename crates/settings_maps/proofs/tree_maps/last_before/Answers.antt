use Rattle.std.proofs.Common.{rules}
use Rattle.settings_maps.proofs.Answered.{some_told, none_told}
use Rattle.settings_maps.proofs.BTreeMaps.{last_below, none_below}
use Rattle.settings_maps.proofs.tree_maps.last_before.Goals as goal

pub returns-clause-greatest : goal.returns-clause-greatest
returns-clause-greatest g c = some_told _ c.next_back.result _ _ c.next_back.ensures.steps
    (λ e is. last_below g.met.K.Ord.total c.args.map.now c.args.key.now c.range.result c.next_back.new.self (e.0.now, e.1.now) (search rules) is)

pub returns-clause-none : goal.returns-clause-none
returns-clause-none g c = none_told _ _ c.next_back.result _ c.next_back.ensures.steps
    (λ none. none_below g.met.K.Ord.total c.args.map.now c.args.key.now c.range.result (search rules) none.0)
