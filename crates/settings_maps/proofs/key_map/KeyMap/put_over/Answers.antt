use Rattle.std.proofs.lemmas.Result.{IfOk-at_ok}
use Rattle.key_names.specs.Order.{key_total, key_cmp-IsAntisymmetric}
use Rattle.settings_maps.proofs.BTreeMaps.{seen-insert}
use Rattle.settings_maps.proofs.key_map.KeyMap.put_over.Goals as goal

pub returns : goal.returns
returns g c = seen-insert key_total key_cmp-IsAntisymmetric c.self.inside.map c.put-put.new.map c.args.self.now c.args.key c.args.value c.self.view_is
    (IfOk-at_ok _ c.unwrap.ensures c.put-put.ensures.updates)
