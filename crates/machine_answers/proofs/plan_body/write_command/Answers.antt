use Rattle.std.proofs.Common.{[], ◌∷◌, map, string_bytes}
use Rattle.serde_json.specs.Data.{string}
use Rattle.held_text.proofs.JsonLists.{list_written, more_written, one_written, string_written}
use Rattle.machine_answers.proofs.plan_body.write_command.Goals as goal

pub returns : goal.returns
returns c =
    let service = c.args.command.now.service in
    let words = map (λ w. string_bytes w) c.args.command.now.words.items in
    list_written string c.end_array.result (service ∷ words) _ _ _ _ c.in_ok-begin_array.ensures.ok c.in_ok-begin_array.ensures.room.0
    (more_written string (service ∷ []) words _ _ _
    (one_written string service _ _ (string_written _ _ c.begin_array.new.self c.string.new.self c.as_str.ensures c.in_ok-string.ensures.ok
    c.in_ok-string.ensures.room.0))
    (rw c.deref.ensures.value at c.in_ok-write_words.ensures))
    c.end_array.ensures
