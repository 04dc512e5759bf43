use Rattle.std.proofs.Common.{◌∙◌}
use Rattle.key_names.specs.Order.{key_total, key_cmp-IsAntisymmetric}
use Rattle.settings_maps.proofs.BTreeMaps.{seen-entries}
use Rattle.settings_maps.proofs.key_map.KeyMap.iter.Goals as goal

pub returns : goal.returns
returns g c = c.iter.ensures.rest ∙ seen-entries key_total key_cmp-IsAntisymmetric c.self.inside.map c.args.self.now c.self.view_is c.iter.ensures.ordered
