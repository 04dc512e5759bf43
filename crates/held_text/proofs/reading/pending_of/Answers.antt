use Rattle.std.proofs.Common.{rules, ◌≡◌, ◌∷◌, true, false, sym, ◌∙◌}
use Rattle.std.specs.Vec.Iter.{into_iter_items, into_iter_len}
use Rattle.key_names.specs.Order.{bytes_total}
use Rattle.settings_maps.specs.Maps.{is_empty}
use Rattle.held_text.proofs.Fillings.{filling_begun, filling_next, filling_refused, filling_done}
use Rattle.held_text.proofs.PartReadings.{whole_transactions, put_whole, not_bare}
use Rattle.held_text.proofs.MapsLeft.{no_length}
use Rattle.settings_tree.proofs.PendingMaps.{seen_pending}
use Rattle.held_text.proofs.Readings.{err_reads}
use Rattle.held_text.proofs.reading.pending_of.Goals as goal

pub loop-transaction-init : goal.loop-transaction-init
loop-transaction-init c = (
  tt,
  tt,
  filling_begun _ _ _ whole_transactions _ _ _ _ c.in_ok-transaction-items.ensures.ok (search rules) c.new-transactions.ensures,
  seen_pending _ c.new-transactions.ensures,
)

pub loop-transaction-preserved : goal.loop-transaction-preserved
loop-transaction-preserved c =
    let l = c.loop-transaction in
    let next : into_iter_items l.transaction-iterator ≡ c.in-Some.transaction ∷ into_iter_items c.next.new.self = search rules in
    let some : is_empty c.in_ok-tx.keys ≡ false = search rules in (
      tt,
      tt,
      filling_next _ _ _ bytes_total _ _ _ _ _ next l.invariant.2 c.in_ok-tx.tx c.in_ok-tx.keys _ c.in_ok-tx.ensures.reads c.in_ok-put_keys.ensures.ok,
      rw c.in_ok-put_keys.ensures.ok (put_whole l.transactions c.in_ok-tx.tx c.in_ok-tx.keys l.invariant.3 c.in_ok-tx.ensures.free some),
    )

pub returns-in_err-tx : goal.returns-in_err-tx
returns-in_err-tx c =
    let l = c.loop-transaction in
    let next : into_iter_items l.transaction-iterator ≡ c.in-Some.transaction ∷ into_iter_items c.next.new.self = search rules in
    err_reads _ _ _ _ c.from_residual-in_err-tx.result c.from_residual-in_err-tx.ensures.1
    (λ m valid is e gives. gives ∙ filling_refused _ _ _ bytes_total _ _ _ _ _ next l.invariant.2 _ c.in_err-tx.ensures.reads m valid is)

pub returns-then-is_empty : goal.returns-then-is_empty
returns-then-is_empty c =
    let l = c.loop-transaction in
    let next : into_iter_items l.transaction-iterator ≡ c.in-Some.transaction ∷ into_iter_items c.next.new.self = search rules in
    let none : is_empty c.in_ok-tx.keys ≡ true = search rules in
    not_bare _ _ _ _ _ next l.invariant.2 c.in_ok-tx.tx c.in_ok-tx.keys c.in_ok-tx.ensures.reads none

pub returns : goal.returns
returns c =
    let none : into_iter_len c.loop-transaction.transaction-iterator ≡ 0 = search rules in
    rw c.of.ensures (filling_done _ _ _ _ _ _ (no_length _ (sym c.loop-transaction.transaction-iterator.rest.ok.0 ∙ none)) c.loop-transaction.invariant.2)
