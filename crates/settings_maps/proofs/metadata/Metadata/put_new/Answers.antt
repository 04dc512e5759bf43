use Rattle.std.proofs.Common.{◌∙◌, ap}
use Rattle.std.proofs.lemmas.Result.{on_ok_weaker, on_err_weaker}
use Rattle.std.specs.FinMap.{FinMap, insert}
use Rattle.key_names.specs.Order.{bytes_cmp, key_total, key_cmp-IsAntisymmetric}
use Rattle.json_trees.specs.declared.scalar.Scalar.{Scalar}
use Rattle.settings_maps.proofs.BTreeMaps.{seen-insert, seen-same}
use Rattle.settings_maps.proofs.NestedMaps.{new_entry}
use Rattle.settings_maps.proofs.metadata.Metadata.put_new.Goals as goal

pub returns : goal.returns
returns c = record {
  ok = on_ok_weaker c.put-2.result (λ updates. new_entry c.args.self.now _ c.args.key c.args.name c.args.value c.put.new.self c.requires
      (c.in_ok-put.ensures.ok ∙ ap (λ (m : FinMap bytes_cmp Scalar). insert m c.args.name c.args.value) c.new-names.ensures)
      (seen-insert key_total key_cmp-IsAntisymmetric c.self.inside.map c.put-2.new.map c.args.self.now c.args.key c.put.new.self c.self.view_is updates))
      c.put-2.ensures.updates;
  err = on_err_weaker c.put-2.result (λ same. seen-same c.self.inside.map c.put-2.new.map c.args.self.now c.self.view_is same) c.put-2.ensures.err;
}
