use Rattle.key_names.proofs.FileNames.{segment_read}
use Rattle.key_names.proofs.file_names.of_file_name.Goals as goal

pub returns-clause-exact : goal.returns-clause-exact
returns-clause-exact c = segment_read c.args.name.now c.segment_named.result c.segment_named.ensures.some c.segment_named.ensures.none
