use Rattle.std.proofs.lemmas.Result.{on_ok_weaker, on_err_weaker}
use Rattle.key_names.specs.Order.{key_total, key_cmp-IsAntisymmetric}
use Rattle.settings_maps.proofs.BTreeMaps.{seen-insert, seen-same, seen-absent}
use Rattle.settings_maps.proofs.key_map.KeyMap.put.Goals as goal

pub returns : goal.returns
returns g c = record {
  ok = on_ok_weaker c.put.result (λ updates. seen-insert key_total key_cmp-IsAntisymmetric c.self.inside.map c.put.new.map c.args.self.now c.args.key
      c.args.value c.self.view_is updates) c.put.ensures.updates;
  err = on_err_weaker c.put.result (λ same. seen-same c.self.inside.map c.put.new.map c.args.self.now c.self.view_is same) c.put.ensures.err;
  absent = on_err_weaker c.put.result (λ none. seen-absent key_total c.self.inside.map c.args.self.now c.args.key c.self.view_is none) c.put.ensures.absent;
}
