use Rattle.outside.specs.Spawner.{texts}
use Rattle.host_client.proofs.FirstWords.{changes_said}
use Rattle.host_client.proofs.changing.changes_in.Goals as goal

pub returns-in-None : goal.returns-in-None
returns-in-None c = changes_said c.texts_in.result (texts c.args.words.now) (rw c.in-None.is at c.in_ok-body.ensures) c.texts_in.ensures
