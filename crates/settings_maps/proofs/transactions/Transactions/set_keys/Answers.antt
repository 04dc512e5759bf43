use Rattle.std.proofs.Common.{cond, sym, ◌∙◌, ap}
use Rattle.std.proofs.lemmas.Result.{on_ok_weaker, on_err_weaker}
use Rattle.std.specs.FinMap.{insert, remove}
use Rattle.key_names.specs.Order.{bytes_total, bytes_cmp-IsAntisymmetric}
use Rattle.settings_maps.proofs.BTreeMaps.{seen-insert, seen-remove, seen-same}
use Rattle.settings_maps.proofs.transactions.Transactions.set_keys.Goals as goal

pub returns-then-is_empty-clause-ok : goal.returns-then-is_empty-clause-ok
returns-then-is_empty-clause-ok c = seen-remove bytes_total bytes_cmp-IsAntisymmetric c.self.inside.map c.remove.new.self c.args.self.now c.args.tx
    c.self.view_is c.remove.ensures.updates
    ∙ sym (ap (λ b. cond b (remove c.args.self.now c.args.tx) (insert c.args.self.now c.args.tx c.args.keys)) (sym c.is_empty.ensures ∙ c.if-is_empty.true))

pub returns-else-is_empty : goal.returns-else-is_empty
returns-else-is_empty c = record {
  ok = on_ok_weaker c.put.result (λ updates. seen-insert bytes_total bytes_cmp-IsAntisymmetric c.self.inside.map c.put.new.map c.args.self.now c.args.tx
      c.args.keys c.self.view_is updates
      ∙ sym (ap (λ b. cond b (remove c.args.self.now c.args.tx) (insert c.args.self.now c.args.tx c.args.keys)) (sym c.is_empty.ensures ∙ c.if-is_empty.false)))
      c.put.ensures.updates;
  err = on_err_weaker c.put.result (λ same. seen-same c.self.inside.map c.put.new.map c.args.self.now c.self.view_is same) c.put.ensures.err;
}
