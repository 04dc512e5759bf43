use Rattle.std.proofs.Common.{rules}
use Rattle.settings_maps.proofs.Answered.{some_told, none_told}
use Rattle.settings_maps.proofs.BTreeMaps.{least_from, none_from}
use Rattle.settings_maps.proofs.tree_maps.next_from.Goals as goal

pub returns-clause-least : goal.returns-clause-least
returns-clause-least g c = some_told _ c.next.result _ _ c.next.ensures.steps
    (λ e is. least_from g.met.K.Ord.total c.args.map.now c.args.key.now c.range.result c.next.new.self (e.0.now, e.1.now) (search rules) is)

pub returns-clause-none : goal.returns-clause-none
returns-clause-none g c = none_told _ _ c.next.result _ c.next.ensures.steps
    (λ none. none_from g.met.K.Ord.total c.args.map.now c.args.key.now c.range.result (search rules) none.0)
