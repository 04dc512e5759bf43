use Rattle.std.proofs.Common.{[], ◌∷◌}
use Rattle.std.proofs.lemmas.Result.{on_ok_weaker}
use Rattle.serde_json.specs.Data.{string}
use Rattle.json_trees.specs.Scalar.{scalar_data}
use Rattle.held_text.specs.HeldText.{key_data}
use Rattle.held_text.proofs.JsonLists.{list_written, one_written, next_written, string_written}
use Rattle.held_text.proofs.writing.write_row.Goals as goal

pub returns-clause-wrote : goal.returns-clause-wrote
returns-clause-wrote c =
    let key = key_data c.args.key.now in
    let name = string c.args.name.now in
    let value = scalar_data c.args.value.now in
    list_written (λ d. d) c.end_array.result (key ∷ name ∷ value ∷ []) _ _ _ _ c.in_ok-begin_array.ensures.ok c.in_ok-begin_array.ensures.room.0
    (next_written (λ d. d) (key ∷ name ∷ []) value _ _ _
    (next_written (λ d. d) (key ∷ []) name _ _ _ (one_written (λ d. d) key _ _ c.in_ok-write_key.ensures.wrote)
    (string_written _ _ c.write_key.new.writer c.string.new.self c.as_str.ensures c.in_ok-string.ensures.ok c.in_ok-string.ensures.room.0))
    (record { tokens = c.in_ok-write.ensures.tokens; before = c.in_ok-write.ensures.before }))
    c.end_array.ensures

pub returns-clause-valid : goal.returns-clause-valid
returns-clause-valid c = on_ok_weaker c.end_array.result (λ _. record { key = c.in_ok-write_key.ensures.valid; value = c.in_ok-write.ensures.writable })
    c.end_array.ensures.ok
