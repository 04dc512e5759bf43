use Rattle.template_reader.specs.Forest.{tree_in}
use Rattle.template_reader.proofs.Sources.{read_spans, read_exactly, refused_exactly}
use Rattle.template_reader.proofs.template.read.Goals as goal

pub returns-clause-spans : goal.returns-clause-spans
returns-clause-spans c = read_spans c.args.source.now c.parsed.result c.parsed.ensures.ok

pub returns-clause-exact_tree : goal.returns-clause-exact_tree
returns-clause-exact_tree c = read_exactly c.args.source.now c.parsed.result c.parsed.ensures.ok c.parsed.ensures.refused

pub returns-clause-exact_fault : goal.returns-clause-exact_fault
returns-clause-exact_fault c = refused_exactly c.args.source.now (λ t. tree_in t.nodes) c.parsed.result c.parsed.ensures.ok c.parsed.ensures.refused
