use Rattle.std.proofs.Common.{string_bytes, ◌∙◌, ap}
use Rattle.command_words.proofs.Errors.{passed}
use Rattle.change_words.specs.Said.{spells}
use Rattle.change_words.proofs.Listed.{each_next, each_fails}
use Rattle.change_words.proofs.said.changes_in.Goals as goal

pub returns-in-Err-clause-usage : goal.returns-in-Err-clause-usage
returns-in-Err-clause-usage c e changes each =
    each_fails string_bytes (spells c.args.form) c.args.words.now c.loop-word.word-index c.word-item.result c.loop-word-test.true c.as_str.result.now
    (c.as_str.ensures.value ∙ ap string_bytes c.word-item.is) (c.in-Err.ensures.usage (passed _ _ e)) changes each

pub loop-word-preserved : goal.loop-word-preserved
loop-word-preserved c =
    each_next string_bytes (spells c.args.form) c.args.words.now c.loop-word.word-index c.word-item.result c.loop-word-test.true c.as_str.result.now
    c.loop-word.changes.items c.push.new.self.items c.in-Ok.change (c.as_str.ensures.value ∙ ap string_bytes c.word-item.is) c.in-Ok-push.ensures.items
    c.loop-word.invariant c.in-Ok.ensures.ok
