use Rattle.std.proofs.Common.{rules, ◌≡◌, ◌∷◌, sym, ◌∙◌}
use Rattle.std.specs.Vec.Iter.{into_iter_items, into_iter_len}
use Rattle.key_names.specs.Order.{key_total}
use Rattle.settings_tree.specs.Rule.{Fits, Clashes}
use Rattle.held_text.proofs.Fillings.{filling_begun, filling_next, filling_refused, filling_done}
use Rattle.held_text.proofs.PartReadings.{no_clash}
use Rattle.held_text.proofs.MapsLeft.{no_length}
use Rattle.settings_tree.proofs.PrefixRule.{empty_free, put_free}
use Rattle.held_text.proofs.Readings.{err_reads}
use Rattle.held_text.proofs.reading.map_of.Goals as goal

pub loop-pair-init : goal.loop-pair-init
loop-pair-init g c = (
  tt,
  tt,
  filling_begun _ _ _ (λ m valid. valid.pairs) _ _ _ _ c.in_ok-pair-items.ensures.ok (search rules) c.new-map.ensures,
  empty_free _ c.new-map.ensures,
)

pub loop-pair-preserved : goal.loop-pair-preserved
loop-pair-preserved g c =
    let l = c.loop-pair in
    let next : into_iter_items l.pair-iterator ≡ c.in-Some.pair ∷ into_iter_items c.next.new.self = search rules in
    let fit : Fits l.map c.in_ok-key.key = search rules in (
      tt,
      tt,
      filling_next _ _ _ key_total _ _ _ _ _ next l.invariant.2 c.in_ok-key.key c.in_ok-key.leaf c.put.new.self c.in_ok-key.ensures c.in_ok-put.ensures.ok,
      rw c.in_ok-put.ensures.ok (put_free l.map c.in_ok-key.key c.in_ok-key.leaf l.invariant.3 fit),
    )

pub returns-in_err-key-clause-reads : goal.returns-in_err-key-clause-reads
returns-in_err-key-clause-reads g c =
    let l = c.loop-pair in
    let next : into_iter_items l.pair-iterator ≡ c.in-Some.pair ∷ into_iter_items c.next.new.self = search rules in
    err_reads _ _ _ _ c.from_residual-in_err-key.result c.from_residual-in_err-key.ensures.1
    (λ m valid is e gives. gives ∙ filling_refused _ _ _ key_total _ _ _ _ _ next l.invariant.2 _ c.in_err-key.ensures m valid is)

pub returns-then-not-fits-clause-reads : goal.returns-then-not-fits-clause-reads
returns-then-not-fits-clause-reads g c =
    let l = c.loop-pair in
    let next : into_iter_items l.pair-iterator ≡ c.in-Some.pair ∷ into_iter_items c.next.new.self = search rules in
    let clash : Clashes l.map c.in_ok-key.key = search rules in
    no_clash g.L.Leaf.leaf g.L.Leaf.written _ _ _ _ _ next l.invariant.2 _ _ c.in_ok-key.ensures clash

pub returns-clause-reads : goal.returns-clause-reads
returns-clause-reads g c =
    let none : into_iter_len c.loop-pair.pair-iterator ≡ 0 = search rules in
    filling_done _ _ _ _ _ _ (no_length _ (sym c.loop-pair.pair-iterator.rest.ok.0 ∙ none)) c.loop-pair.invariant.2
