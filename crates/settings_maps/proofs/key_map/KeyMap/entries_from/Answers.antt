use Rattle.std.proofs.Common.{rules}
use Rattle.std.specs.Ordering.{is_le}
use Rattle.key_names.specs.Order.{key_cmp, key_total, key_cmp-IsAntisymmetric}
use Rattle.settings_maps.proofs.BTreeMaps.{seen-range}
use Rattle.settings_maps.proofs.key_map.KeyMap.entries_from.Goals as goal

pub returns : goal.returns
returns g c = seen-range key_total key_cmp-IsAntisymmetric c.self.inside.map c.args.self.now c.range.result (λ k. is_le (key_cmp c.args.key.now k))
    c.self.view_is c.range.ensures.ordered (c.range.ensures.between (search rules))
