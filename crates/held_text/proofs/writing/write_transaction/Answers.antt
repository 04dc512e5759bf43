use Rattle.std.proofs.Common.{[], ◌∷◌}
use Rattle.std.proofs.lemmas.Result.{on_ok_weaker}
use Rattle.serde_json.specs.Data.{string}
use Rattle.json_trees.specs.Tree.{pending_data}
use Rattle.held_text.specs.HeldText.{map_data}
use Rattle.held_text.proofs.JsonLists.{list_written, one_written, next_written, string_written}
use Rattle.held_text.proofs.writing.write_transaction.Goals as goal

pub returns-clause-wrote : goal.returns-clause-wrote
returns-clause-wrote c =
    let name = string c.args.tx.now in
    let pairs = map_data pending_data c.args.keys.now in
    list_written (λ d. d) c.end_array.result (name ∷ pairs ∷ []) _ _ _ _ c.in_ok-begin_array.ensures.ok c.in_ok-begin_array.ensures.room.0
    (next_written (λ d. d) (name ∷ []) pairs _ _ _
    (one_written (λ d. d) name _ _ (string_written _ _ c.begin_array.new.self c.string.new.self c.as_str.ensures.bytes c.in_ok-string.ensures.ok
    c.in_ok-string.ensures.room.0)) c.in_ok-write_map.ensures.wrote)
    c.end_array.ensures

pub returns-clause-valid : goal.returns-clause-valid
returns-clause-valid c = on_ok_weaker c.end_array.result (λ _. record { name = c.as_str.ensures.valid; pairs = c.in_ok-write_map.ensures.valid })
    c.end_array.ensures.ok
