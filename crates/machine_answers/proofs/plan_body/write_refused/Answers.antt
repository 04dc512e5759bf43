use Rattle.std.proofs.Common.{[], ◌∷◌}
use Rattle.serde_json.specs.Data.{string}
use Rattle.held_text.proofs.JsonLists.{list_written, one_written, next_written, string_written}
use Rattle.machine_answers.specs.RenderWords.{render_word, render_path}
use Rattle.machine_answers.proofs.plan_body.write_refused.Goals as goal

pub returns : goal.returns
returns c =
    let file = c.args.file.now in
    let word = render_word c.args.error.now in
    let path = render_path c.args.error.now in
    list_written string c.end_array.result (file ∷ word ∷ path ∷ []) _ _ _ _ c.in_ok-begin_array.ensures.ok c.in_ok-begin_array.ensures.room.0
    (next_written string (file ∷ word ∷ []) path _ _ _
    (next_written string (file ∷ []) word _ _ _
    (one_written string file _ _ (string_written _ _ c.begin_array.new.self c.string.new.self c.as_str.ensures c.in_ok-string.ensures.ok
    c.in_ok-string.ensures.room.0))
    (string_written _ _ c.string.new.self c.string-2.new.self c.render_word.ensures c.in_ok-string-2.ensures.ok c.in_ok-string-2.ensures.room.0))
    (string_written _ _ c.string-2.new.self c.string-3.new.self c.render_path.ensures c.in_ok-string-3.ensures.ok c.in_ok-string-3.ensures.room.0))
    c.end_array.ensures
