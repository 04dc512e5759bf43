use Rattle.key_names.specs.Order.{key_total}
use Rattle.settings_maps.proofs.BTreeMaps.{seen-is_empty}
use Rattle.settings_maps.proofs.key_map.KeyMap.is_empty.Goals as goal

pub returns : goal.returns
returns g c = seen-is_empty key_total c.self.inside.map c.args.self.now c.is_empty.result c.self.view_is c.is_empty.ensures
