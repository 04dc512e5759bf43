use Rattle.std.proofs.Common.{◌≡◌, ◌++◌, take}
use Rattle.std.specs.List.{flat_map}
use Rattle.json_trees.specs.Scalar.{item_data}
use Rattle.json_trees.specs.Written.{data_tokens}
use Rattle.template_eval.proofs.quoting.write_items.Given as goal

abbrev pub invariant-loop-item : goal.invariant-loop-item
invariant-loop-item l = record {
  tokens : l.writer.tokens ≡ l.initial.writer.tokens ++ flat_map (λ item. data_tokens (item_data item)) (take l.item-index l.items);
  before : l.writer.before ≡ l.initial.writer.before;
}
