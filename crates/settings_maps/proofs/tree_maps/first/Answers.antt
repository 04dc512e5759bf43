use Rattle.settings_maps.proofs.BTreeMaps.{both_some, least_of_all, none_at_all}
use Rattle.settings_maps.proofs.tree_maps.first.Goals as goal

pub returns-clause-least : goal.returns-clause-least
returns-clause-least g c = both_some c.first_key_value.result _ _ _ (λ e value least. least_of_all g.met.K.Ord.total c.args.map.now e.0.now e.1.now value least)
    c.first_key_value.ensures.value c.first_key_value.ensures.least

pub returns-clause-none : goal.returns-clause-none
returns-clause-none g c = none_at_all g.met.K.Ord.total c.args.map.now c.first_key_value.result c.first_key_value.ensures.variant
