use Rattle.template_reader.proofs.Trees.{no_text}
use Rattle.template_reader.proofs.reading.push_text.Goals as goal

pub returns-else-start-end : goal.returns-else-start-end
returns-else-start-end c = no_text _ _ _ _ c.if-start-end.false
