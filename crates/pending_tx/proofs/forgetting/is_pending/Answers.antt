use Rattle.std.proofs.Common.{arith, Bool, List, ℕ, is_some, length, sym, ◌∙◌, ap}
use Rattle.std.specs.List.{list_any}
use Rattle.std.specs.FinMap.{FinMap, get}
use Rattle.std.specs.Option.{option_copied}
use Rattle.key_names.specs.Order.{bytes_cmp, bytes_total, bytes_cmp-IsAntisymmetric, key_cmp}
use Rattle.json_trees.specs.declared.pending.Pending.{Pending}
use Rattle.settings_tree.proofs.Walks.{walk_start, walk_end}
use Rattle.pending_tx.proofs.Walked.{any_found, any_passed, inner_next, some_copied}
use Rattle.pending_tx.proofs.forgetting.is_pending.Goals as goal

abbrev any_at : List (List ℕ) → List (List ℕ × FinMap key_cmp Pending) → Bool
any_at k es = list_any (λ t. is_some (get t.1 k)) es

pub loop-tx-init : goal.loop-tx-init
loop-tx-init c = ap (any_at c.args.key.now) (walk_start {R = bytes_cmp} bytes_total bytes_cmp-IsAntisymmetric c.args.held.now.pending)

pub returns-then-is_some : goal.returns-then-is_some
returns-then-is_some c = any_found c.args.held.now.pending (option_copied c.loop-tx.after) c.in-Some.tx.now c.args.key.now _ c.in-Some.ensures.least
    (sym (ap is_some c.value.ensures.value) ∙ some_copied c.value.result ∙ sym c.is_some.ensures ∙ c.if-is_some.true) c.loop-tx.invariant

pub loop-tx-smaller : goal.loop-tx-smaller
loop-tx-smaller c = omega (arith, ap length (inner_next c.args.held.now.pending (option_copied c.loop-tx.after) c.in-Some.tx.now c.in-Some.ensures.least))

pub loop-tx-preserved : goal.loop-tx-preserved
loop-tx-preserved c = any_passed c.args.held.now.pending (option_copied c.loop-tx.after) c.in-Some.tx.now c.args.key.now _ c.in-Some.ensures.least
    (sym (ap is_some c.value.ensures.value) ∙ some_copied c.value.result ∙ sym c.is_some.ensures ∙ c.if-is_some.false) c.loop-tx.invariant

pub returns : goal.returns
returns c = sym (ap (any_at c.args.key.now) (walk_end {R = bytes_cmp} bytes_total bytes_cmp-IsAntisymmetric c.args.held.now.pending
    (option_copied c.loop-tx.after) c.in_default.ensures.none)) ∙ c.loop-tx.invariant
