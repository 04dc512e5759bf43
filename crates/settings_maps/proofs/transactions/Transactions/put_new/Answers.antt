use Rattle.std.proofs.Common.{◌∙◌, ap}
use Rattle.std.proofs.lemmas.Result.{on_ok_weaker, on_err_weaker}
use Rattle.std.specs.FinMap.{FinMap, insert}
use Rattle.key_names.specs.Order.{key_cmp, bytes_total, bytes_cmp-IsAntisymmetric}
use Rattle.json_trees.specs.declared.pending.Pending.{Pending}
use Rattle.settings_maps.proofs.BTreeMaps.{seen-insert, seen-same}
use Rattle.settings_maps.proofs.NestedMaps.{new_entry}
use Rattle.settings_maps.proofs.transactions.Transactions.put_new.Goals as goal

pub returns : goal.returns
returns c = record {
  ok = on_ok_weaker c.put-2.result (λ updates. new_entry c.args.self.now _ c.args.tx c.args.key c.args.value c.put.new.self c.requires
      (c.in_ok-put.ensures.ok ∙ ap (λ (m : FinMap key_cmp Pending). insert m c.args.key c.args.value) c.new-pending.ensures)
      (seen-insert bytes_total bytes_cmp-IsAntisymmetric c.self.inside.map c.put-2.new.map c.args.self.now c.args.tx c.put.new.self c.self.view_is updates))
      c.put-2.ensures.updates;
  err = on_err_weaker c.put-2.result (λ same. seen-same c.self.inside.map c.put-2.new.map c.args.self.now c.self.view_is same) c.put-2.ensures.err;
}
