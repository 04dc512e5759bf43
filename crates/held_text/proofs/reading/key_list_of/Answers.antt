use Rattle.std.proofs.Common.{rules, ◌≡◌, [], ◌∷◌, ◌++◌, sym, ◌∙◌}
use Rattle.std.specs.Vec.Iter.{into_iter_items, into_iter_len}
use Rattle.settings_maps.specs.KeyList.{IsRising}
use Rattle.held_text.proofs.MapsLeft.{no_length}
use Rattle.held_text.proofs.KeysLeft.{keys_begun, keys_pushed, keys_refused, keys_done, keys_fall}
use Rattle.held_text.proofs.Readings.{err_reads}
use Rattle.held_text.proofs.reading.key_list_of.Goals as goal

pub loop-value-init : goal.loop-value-init
loop-value-init c = (tt, tt, keys_begun _ _ _ _ c.in_ok-value-items.ensures.ok (search rules) c.new-keys.ensures.items)

pub loop-value-preserved : goal.loop-value-preserved
loop-value-preserved c =
    let l = c.loop-value in
    let next : into_iter_items l.value-iterator ≡ c.in-Some.value ∷ into_iter_items c.next.new.self = search rules in
    let grown : c.push.new.self.items ≡ l.keys.items ++ c.in_ok-key_of.field-0 ∷ [] = search rules in
    (tt, tt, keys_pushed _ _ _ _ _ next l.invariant.2 c.in_ok-key_of.field-0 _ c.in_ok-key_of.ensures grown)

pub returns-in_err-key_of : goal.returns-in_err-key_of
returns-in_err-key_of c =
    let l = c.loop-value in
    let next : into_iter_items l.value-iterator ≡ c.in-Some.value ∷ into_iter_items c.next.new.self = search rules in
    err_reads _ _ _ _ c.from_residual-in_err-key_of.result c.from_residual-in_err-key_of.ensures.1
    (λ keys valid is e gives. gives ∙ keys_refused _ _ _ _ _ next l.invariant.2 _ c.in_err-key_of.ensures keys valid is)

pub returns-then-not-rise : goal.returns-then-not-rise
returns-then-not-rise c =
    let none : into_iter_len c.loop-value.value-iterator ≡ 0 = search rules in
    let falls : ¬ IsRising c.loop-value.keys.items = search rules in
    keys_fall _ _ _ (no_length _ (sym c.loop-value.value-iterator.rest.ok.0 ∙ none)) c.loop-value.invariant.2 falls

pub returns : goal.returns
returns c =
    let none : into_iter_len c.loop-value.value-iterator ≡ 0 = search rules in
    rw c.of.ensures (keys_done _ _ _ (no_length _ (sym c.loop-value.value-iterator.rest.ok.0 ∙ none)) c.loop-value.invariant.2)
