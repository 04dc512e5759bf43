use Rattle.std.proofs.Common.{arith, rules, ap, length, map}
use Rattle.std.specs.Option.{option_copied}
use Rattle.key_names.specs.Order.{bytes_cmp, bytes_total, bytes_cmp-IsAntisymmetric}
use Rattle.settings_tree.proofs.Walks.{walk_start, walk_end, listed_more, listed_all}
use Rattle.pending_tx.proofs.Walked.{begun, names_next, names_rise}
use Rattle.pending_tx.proofs.reading.list.Goals as goal

pub loop-tx-init : goal.loop-tx-init
loop-tx-init c = begun _ c.new-names.result.items _ c.new-names.ensures.items
    (ap (map (λ e. e.0)) (walk_start {R = bytes_cmp} bytes_total bytes_cmp-IsAntisymmetric c.args.held.now.pending))

pub loop-tx-smaller : goal.loop-tx-smaller
loop-tx-smaller c = omega (arith, ap length (names_next c.args.held.now.pending (option_copied c.loop-tx.after) c.in-Some.tx.now c.in-Some.ensures.least))

pub loop-tx-preserved : goal.loop-tx-preserved
loop-tx-preserved c = listed_more _ c.loop-tx.names.items _ _ _ _ c.loop-tx.invariant
    (names_next c.args.held.now.pending (option_copied c.loop-tx.after) c.in-Some.tx.now c.in-Some.ensures.least) (search rules)

pub returns-clause-names : goal.returns-clause-names
returns-clause-names c = listed_all _ c.loop-tx.names.items _ c.loop-tx.invariant
    (ap (map (λ e. e.0)) (walk_end {R = bytes_cmp} bytes_total bytes_cmp-IsAntisymmetric c.args.held.now.pending (option_copied c.loop-tx.after)
    c.in_default.ensures.none))

pub returns-clause-rising : goal.returns-clause-rising
returns-clause-rising c = names_rise c.args.held.now.pending c.loop-tx.names.items (returns-clause-names c)
