use Rattle.std.proofs.Common.{◌∙◌}
use Rattle.key_names.specs.Order.{key_cmp}
use Rattle.key_names.proofs.PackedOrder.{order}
use Rattle.key_names.proofs.key.KeyOrd.cmp.Goals as goal

pub returns : goal.returns
returns c = c.cmp.ensures ∙ order c.packed.result.now c.packed-2.result.now ∙ (λ i. key_cmp (c.packed.ensures.parts i) (c.packed-2.ensures.parts i))
