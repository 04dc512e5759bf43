use Rattle.std.proofs.Common.{rules, ◌≡◌, ◌∷◌, false, sym, ◌∙◌}
use Rattle.std.specs.Vec.Iter.{into_iter_items, into_iter_len}
use Rattle.settings_maps.specs.TxName.{is_meta_name}
use Rattle.held_text.proofs.MapsLeft.{no_length}
use Rattle.held_text.proofs.RowsBack.{rows_begun, rows_put, rows_unnamed, rows_refused, rows_ended, err_puts}
use Rattle.held_text.proofs.reading.put_rows.Goals as goal

pub loop-row-init : goal.loop-row-init
loop-row-init c = (tt, tt, rows_begun _ _ _ _ c.in_ok-row-items.ensures.ok (search rules))

pub loop-row-preserved : goal.loop-row-preserved
loop-row-preserved c =
    let l = c.loop-row in
    let next : into_iter_items l.row-iterator ≡ c.in-Some.row ∷ into_iter_items c.next.new.self = search rules in
    (tt, tt, rows_put _ _ _ _ _ _ next l.invariant.2 c.in_ok-key.key c.in_ok-key.name c.in_ok-key.value _ c.in_ok-key.ensures c.in_ok-put_meta.ensures.ok)

pub returns-in_err-key : goal.returns-in_err-key
returns-in_err-key c =
    let l = c.loop-row in
    let next : into_iter_items l.row-iterator ≡ c.in-Some.row ∷ into_iter_items c.next.new.self = search rules in
    err_puts _ _ _ _ c.from_residual-in_err-key.result c.from_residual-in_err-key.ensures.1
    (λ m valid bare is e gives. gives ∙ rows_refused _ _ _ _ _ _ next l.invariant.2 _ c.in_err-key.ensures m valid bare is)

pub returns-then-not-is_meta_name : goal.returns-then-not-is_meta_name
returns-then-not-is_meta_name c =
    let l = c.loop-row in
    let next : into_iter_items l.row-iterator ≡ c.in-Some.row ∷ into_iter_items c.next.new.self = search rules in
    let not : is_meta_name c.in_ok-key.name ≡ false = search rules in
    rows_unnamed _ _ _ _ _ _ next l.invariant.2 c.in_ok-key.key c.in_ok-key.name c.in_ok-key.value c.in_ok-key.ensures not

pub returns : goal.returns
returns c =
    let none : into_iter_len c.loop-row.row-iterator ≡ 0 = search rules in
    rows_ended _ _ _ _ (no_length _ (sym c.loop-row.row-iterator.rest.ok.0 ∙ none)) c.loop-row.invariant.2
