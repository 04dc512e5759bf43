use Rattle.std.proofs.Common.{arith, ap, length}
use Rattle.std.specs.Option.{option_copied}
use Rattle.key_names.specs.Order.{bytes_cmp, bytes_total, bytes_cmp-IsAntisymmetric}
use Rattle.settings_tree.proofs.Walks.{walk_start, walk_end, listed_all}
use Rattle.pending_tx.proofs.Takings.{taken_in, taken_next}
use Rattle.pending_tx.proofs.Walked.{begun, inner_next}
use Rattle.pending_tx.proofs.forgetting.ended_entries.Goals as goal

pub loop-tx-init : goal.loop-tx-init
loop-tx-init c = begun _ c.new-ended.result.items _ c.new-ended.ensures.items
    (ap (taken_in c.args.keys.now) (walk_start {R = bytes_cmp} bytes_total bytes_cmp-IsAntisymmetric c.args.held.now.pending))

pub loop-tx-smaller : goal.loop-tx-smaller
loop-tx-smaller c = omega (arith, ap length (inner_next c.args.held.now.pending (option_copied c.loop-tx.after) c.in-Some.tx.now c.in-Some.ensures.least))

pub loop-tx-preserved : goal.loop-tx-preserved
loop-tx-preserved c = taken_next c.args.keys.now _ c.loop-tx.ended.items _ _ _ c.in-Some.tx.now _ c.loop-tx.invariant
    (inner_next c.args.held.now.pending (option_copied c.loop-tx.after) c.in-Some.tx.now c.in-Some.ensures.least) c.in_ok-end_keys.ensures

pub returns : goal.returns
returns c = listed_all _ c.loop-tx.ended.items _ c.loop-tx.invariant
    (ap (taken_in c.args.keys.now) (walk_end {R = bytes_cmp} bytes_total bytes_cmp-IsAntisymmetric c.args.held.now.pending (option_copied c.loop-tx.after)
    c.in_default.ensures.none))
