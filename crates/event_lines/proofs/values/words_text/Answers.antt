use Rattle.std.proofs.Common.{◌∙◌, string_bytes}
use Rattle.std.specs.Prelude.{codes}
use Rattle.event_lines.proofs.Texts.{joined_texts}
use Rattle.event_lines.proofs.values.words_text.Goals as goal

pub returns : goal.returns
returns c = c.of.ensures ∙ c.in_ok-text.ensures.ok ∙ joined_texts (λ w. string_bytes w) (codes " ") c.args.words.now
