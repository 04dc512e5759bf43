use Rattle.std.proofs.Common.{◌≡◌, ◌++◌, take}
use Rattle.std.specs.List.{flat_map}
use Rattle.template_eval.specs.Written.{item_text}
use Rattle.template_eval.proofs.joins.push_items.Given as goal

abbrev pub invariant-loop-item : goal.invariant-loop-item
invariant-loop-item l = l.out.items ≡ l.initial.out.items ++ flat_map (λ i. l.joiner ++ item_text i) (take l.item-index l.rest)
