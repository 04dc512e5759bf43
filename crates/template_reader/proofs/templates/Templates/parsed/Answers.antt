use Rattle.template_reader.specs.Forest.{tree_in}
use Rattle.template_reader.proofs.Total.{reading-had}
use Rattle.template_reader.proofs.templates.Templates.parsed.Goals as goal

pub returns-in-Some-clause-template : goal.returns-in-Some-clause-template
returns-in-Some-clause-template c = rw c.as_slice.ensures (reading-had _ (tree_in c.in-Some.kept.now.template.nodes) c.in-Some.kept.now.reading)
