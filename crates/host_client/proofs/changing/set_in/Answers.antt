use Rattle.std.proofs.Common.{refl}
use Rattle.outside.specs.Spawner.{texts}
use Rattle.host_client.specs.Orders.{changes}
use Rattle.host_client.proofs.FirstWords.{set_none}
use Rattle.host_client.proofs.changing.set_in.Goals as goal

pub returns-in-Some : goal.returns-in-Some
returns-in-Some c = changes (texts c.args.words.now) refl (rw c.in-Some.is at c.in_ok-body.ensures)

pub returns-in-None : goal.returns-in-None
returns-in-None c = set_none (texts c.args.words.now) (rw c.in-None.is at c.in_ok-body.ensures)
