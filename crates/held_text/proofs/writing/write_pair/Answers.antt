use Rattle.std.proofs.Common.{[], ◌∷◌}
use Rattle.std.proofs.lemmas.Result.{on_ok_weaker}
use Rattle.held_text.specs.HeldText.{key_data}
use Rattle.held_text.proofs.JsonLists.{list_written, one_written, next_written}
use Rattle.held_text.proofs.writing.write_pair.Goals as goal

pub returns-clause-wrote : goal.returns-clause-wrote
returns-clause-wrote g c =
    let key = key_data c.args.key.now in
    let value = g.L.Leaf.written c.args.leaf.now in
    list_written (λ d. d) c.end_array.result (key ∷ value ∷ []) _ _ _ _ c.in_ok-begin_array.ensures.ok c.in_ok-begin_array.ensures.room.0
    (next_written (λ d. d) (key ∷ []) value _ _ _ (one_written (λ d. d) key _ _ c.in_ok-write_key.ensures.wrote)
    (record { tokens = c.in_ok-write.ensures.tokens; before = c.in_ok-write.ensures.before }))
    c.end_array.ensures

pub returns-clause-valid : goal.returns-clause-valid
returns-clause-valid g c = on_ok_weaker c.end_array.result (λ _. (c.in_ok-write_key.ensures.valid, c.in_ok-write.ensures.writable)) c.end_array.ensures.ok
