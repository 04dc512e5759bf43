use Rattle.std.proofs.Common.{inl, inr, reverse, ◌∙◌, sym}
use Rattle.affected_apply.proofs.Merging.{rest_merged}
use Rattle.affected_apply.proofs.Ends.{none_reversed}
use Rattle.affected_apply.proofs.noting.merge_down.Goals as goal
use Rattle.affected_apply.proofs.noting.merge_down.Goals.{then-loop-two-test+else-not-is_empty, else-loop-two-test}

pub returns : goal.returns
returns c = rest_merged _ c.loop-two.all.items c.move_all.new.to.items c.move_all-2.new.to.items (reverse c.loop-two.one.items) (reverse c.loop-two.two.items)
    (elim c.loop-two-test.branch [
      | then-loop-two-test+else-not-is_empty w ↦ inr (none_reversed c.loop-two.two (sym w.is_empty-in-loop-two.ensures ∙ w.if-not-is_empty.false))
      | else-loop-two-test w ↦ inl (none_reversed c.loop-two.one (sym c.is_empty.ensures ∙ w.loop-two-test.false))
    ])
    c.move_all.ensures.items c.move_all-2.ensures.items c.loop-two.invariant.merged
