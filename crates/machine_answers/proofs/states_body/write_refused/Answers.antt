use Rattle.std.proofs.Common.{codes}
use Rattle.std.proofs.lemmas.Result.{on_ok_weaker}
use Rattle.serde_json.specs.Data.{string}
use Rattle.held_text.proofs.JsonLists.{member_written, string_written}
use Rattle.machine_answers.specs.RenderWords.{render_word, render_path}
use Rattle.machine_answers.proofs.states_body.write_refused.Goals as goal

pub returns : goal.returns
returns c =
    let e = c.args.error.now in
    on_ok_weaker c.write_placed.result
    (λ placed. member_written (codes "at") (string (render_path e)) _ _ _ _ _ c.in_ok-key.ensures.ok c.in_ok-key.ensures.room.0
    (string_written _ _ c.key.new.self c.string.new.self c.render_path.ensures c.in_ok-string.ensures.ok c.in_ok-string.ensures.room.0)
    (member_written (codes "kind") (string (render_word e)) _ _ _ _ _ c.in_ok-key-2.ensures.ok c.in_ok-key-2.ensures.room.0
    (string_written _ _ c.key-2.new.self c.string-2.new.self c.render_word.ensures c.in_ok-string-2.ensures.ok c.in_ok-string-2.ensures.room.0) placed))
    c.write_placed.ensures
