use Rattle.key_names.proofs.OneReading.{spelled_read, fault_read}
use Rattle.key_names.proofs.key.Key.read.Goals as goal

pub returns-clause-exact_key : goal.returns-clause-exact_key
returns-clause-exact_key c = spelled_read c.args.text.now c.of_text.result c.of_text.ensures.ok c.of_text.ensures.refused

pub returns-clause-exact_fault : goal.returns-clause-exact_fault
returns-clause-exact_fault c = fault_read c.args.text.now c.of_text.result c.of_text.ensures.ok c.of_text.ensures.refused
