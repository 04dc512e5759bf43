use Rattle.std.proofs.Common.{◌∙◌}
use Rattle.std.proofs.lemmas.Result.{on_ok_weaker}
use Rattle.key_names.proofs.SpelledKeys.{spelled_key}
use Rattle.held_text.proofs.JsonLists.{text_written}
use Rattle.held_text.proofs.writing.write_key.Goals as goal

pub returns-clause-wrote : goal.returns-clause-wrote
returns-clause-wrote c = text_written c.string.result _ _ _ _ (c.as_str.ensures ∙ c.in_ok-text.ensures.value) c.string.ensures

pub returns-clause-valid : goal.returns-clause-valid
returns-clause-valid c = on_ok_weaker c.string.result (λ _. spelled_key _ c.args.key.now c.in_ok-text.ensures.reads_back) c.string.ensures.ok
