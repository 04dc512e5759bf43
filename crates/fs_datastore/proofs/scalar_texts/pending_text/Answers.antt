use Rattle.fs_datastore.proofs.KeyTexts.{gone_spelled}
use Rattle.fs_datastore.proofs.scalar_texts.pending_text.Goals as goal

pub returns-in-Gone-clause-spelled : goal.returns-in-Gone-clause-spelled
returns-in-Gone-clause-spelled c = gone_spelled c.null_text.result c.args.value.now c.in-Gone.is c.null_text.ensures.reads
